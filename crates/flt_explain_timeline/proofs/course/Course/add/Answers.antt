use Rattle.flt_explain_timeline.proofs.NextEntry.{one_added}
use Rattle.flt_explain_timeline.proofs.course.Course.add.Goals as goal

pub returns-clause-told : goal.returns-clause-told
returns-clause-told c =
    one_added c.push-2.result c.args.self.now.tellings c.number.new.self c.args.self.now.told c.push.new.self c.args.self.now.whos
    c.push-2.new.self c.in_ok-number.number c.args.here c.in_ok-number.ensures.kept c.in_ok-number.ensures.told c.in_ok-push.ensures.ok
    c.push-2.ensures.ok
