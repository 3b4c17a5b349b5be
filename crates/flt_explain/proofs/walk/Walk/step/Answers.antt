use Rattle.flt_explain.proofs.Gathering.{look_by_point, look_wide}
use Rattle.flt_explain.proofs.walk.Walk.step.Goals as goal

pub returns-clause-wide : goal.returns-clause-wide
returns-clause-wide c =
    look_wide c.args.graph.now c.spot-spot.result c.in-Some.point c.args.self.now c.take.new.self c.look.new.self c.args.findings.now
    c.look.new.findings c.args.by_point.now.lists c.replace.new.self.lists c.look.new.here c.requires.wide c.in-Some.ensures.rest
    c.in_ok-next.ensures.looked c.replace.ensures

pub returns-clause-by_point : goal.returns-clause-by_point
returns-clause-by_point c =
    look_by_point c.args.graph.now c.args.callback c.in-Some.point c.spot-spot.result c.take.new.self c.look.new.self c.args.findings.now
    c.look.new.findings c.args.by_point.now.lists c.replace.new.self.lists c.look.new.here c.spot-spot.ensures c.in_ok-next.ensures.looked
    c.requires.by_point c.in_ok-next.ensures.here c.replace.ensures
