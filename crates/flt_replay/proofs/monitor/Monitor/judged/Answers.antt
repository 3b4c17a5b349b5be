use Rattle.std.proofs.Common.{sym, ◌∙◌}
use Rattle.flt_replay.proofs.Judging.Courses.{fails, reaches}
use Rattle.flt_replay.proofs.monitor.Monitor.judged.Goals as goal

pub returns-in-Some : goal.returns-in-Some
returns-in-Some c p m x s agrees follows rule =
    fails p m s c.args.self.now c.in_ok-found.found c.args.rule
    (c.in_ok-found.ensures p m x s agrees (rw c.as_slice.ensures.value follows)).0 rule c.in-Some.violation
    (sym c.or.ensures ∙ c.in-Some.is)

pub returns-in-None : goal.returns-in-None
returns-in-None c p m x s agrees follows rule =
    let taken = c.in_ok-found.ensures p m x s agrees (rw c.as_slice.ensures.value follows) in
    reaches p m s (record { world = c.args.self.now.world; ledger = c.take.new.self }) c.in_ok-found.found c.args.rule taken.0
    rule (sym c.or.ensures ∙ c.in-None.is) (sym follows.world) taken.1
