use Rattle.flt_model.specs.Steps.{Board}
use Rattle.flt_replay.proofs.Judging.Courses.{in_other_words, goes_to, stops}
use Rattle.flt_replay.proofs.monitor.Monitor.go_seen.Goals as goal

pub returns-in-None : goal.returns-in-None
returns-in-None c m at =
    stops c.args.stack.now m (Board c.args.a c.args.grant) c.step_seen.new.self (c.in_ok-rule.ensures.stops c.in-None.is m at)

pub returns-in-Some : goal.returns-in-Some
returns-in-Some c =
    in_other_words _ _ c.judged.result
    (λ course judges m at.
    let by = rw c.in-Some.is at c.in_ok-rule.ensures.steps m at in
    goes_to c.args.stack.now m (Board c.args.a c.args.grant) course c.judged.new.self by.step by.follows.is
    (judges c.args.stack.now m (Board c.args.a c.args.grant) by.step (rw c.in_ok-rule.ensures.ledger at.counts) by.follows by.least))
    c.judged.ensures
