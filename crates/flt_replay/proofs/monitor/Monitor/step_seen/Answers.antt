use Rattle.std.proofs.Common.{rules}
use Rattle.flt_replay.proofs.Judging.Courses.{StayExclusive, seen, not_seen}
use Rattle.flt_replay.proofs.monitor.Monitor.step_seen.Goals as goal

pub returns-then-not-branch-clause-stops : goal.returns-then-not-branch-clause-stops
returns-then-not-branch-clause-stops c none m at =
    not_seen c.args.stack.now m c.args.a c.args.grant c.holds_given.result c.args.self.now c.step_seen.new.world
    c.step_seen.new.events.items
    c.in_ok-step_seen.field-0 at (c.holds_given.ensures m at) (rw c.clear.ensures.items at c.in_ok-step_seen.ensures) (search rules)

pub returns-clause-steps : goal.returns-clause-steps
returns-clause-steps c m at =
    let stay : StayExclusive = record { opening = c.locks_stay_exclusive.ensures.opening; steps = c.locks_stay_exclusive.ensures.steps } in
    seen c.args.stack.now m c.args.a c.args.grant c.holds_given.result c.args.self.now c.step_seen.new.world
    c.step_seen.new.events.items
    c.in_ok-step_seen.field-0 at (c.holds_given.ensures m at) (rw c.clear.ensures.items at c.in_ok-step_seen.ensures)
    c.broken_rule.result c.in_ok-locks.locks stay c.if-not-branch.false c.in_ok-locks.ensures
    (rw (c.as_slice.ensures, c.as_slice-2.ensures.value) at c.broken_rule.ensures)
