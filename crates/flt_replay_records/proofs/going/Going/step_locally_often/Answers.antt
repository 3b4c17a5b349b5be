use Rattle.std.proofs.Common.{◌≡◌, ◌-◌, sym, ap, ◌∙◌, arith}
use Rattle.flt_replay_records.specs.Local.{local_steps}
use Rattle.flt_replay_records.proofs.LocalLaws.{one_more, none_more}
use Rattle.flt_replay_records.proofs.going.Going.step_locally_often.Goals as goal

pub loop-preserved : goal.loop-preserved
loop-preserved c =
    one_more c.args.draining c.args.steps c.loop.counter c.loop.self _ c.loop-test.true c.loop.invariant c.step.new.self
    (rw c.if-not-branch.false at c.in_ok-step.ensures)

pub returns-then-not-branch : goal.returns-then-not-branch
returns-then-not-branch c =
    none_more c.args.draining c.args.steps c.loop.counter c.loop.self _ c.loop-test.true c.loop.invariant
    (rw c.if-not-branch.true at c.in_ok-step.ensures)

pub returns : goal.returns
returns c =
    let none : c.args.steps - c.loop.counter ≡ 0 = omega (arith, c.loop-test.false) in
    sym c.loop.invariant ∙ ap (λ n. local_steps c.args.draining n c.loop.self) none
