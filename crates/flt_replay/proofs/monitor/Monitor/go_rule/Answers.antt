use Rattle.std.proofs.Common.{[]}
use Rattle.flt_replay.proofs.Judging.Lesser.{ends_by, of_some}
use Rattle.flt_replay.proofs.monitor.Monitor.go_rule.Goals as goal

pub returns-in-Some : goal.returns-in-Some
returns-in-Some c = of_some c.in-Some.rule _
    (λ v is m at.
    let on = rw c.if-not-branch.false at c.in_ok-go_unseen.ensures c.args.stack.now m [] at in
    let judged = rw c.in-Some.is at c.in_ok-rule.ensures.steps on.0 on.1 in
    ends_by c.args.stack.now m on.0 c.args.a c.args.steps c.args.grant c.step_seen.new.self.world c.step_seen.new.room.events.items
    c.in-Some.rule v c.if-steps-eq0.false on.2 judged is)
