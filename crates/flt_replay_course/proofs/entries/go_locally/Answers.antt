use Rattle.std.proofs.Common.{[], arith}
use Rattle.flt_replay_course.proofs.Leading.{one_more, stopped, went}
use Rattle.flt_replay_course.proofs.entries.go_locally.Goals as goal

pub returns-then-not-branch : goal.returns-then-not-branch
returns-then-not-branch c =
    stopped c.args.steps c.loop-made.made c.args.world.now c.loop-made.world c.step_unseen.new.world c.args.a c.in_ok-step_unseen.field-0
    (omega (arith, c.loop-made-test.true)) c.loop-made.invariant (c.in_ok-step_unseen.ensures [] []) c.if-not-branch.true

pub loop-made-preserved : goal.loop-made-preserved
loop-made-preserved c =
    one_more c.loop-made.made c.args.world.now c.loop-made.world c.step_unseen.new.world c.args.a c.in_ok-step_unseen.field-0
    c.loop-made.invariant (c.in_ok-step_unseen.ensures [] []) c.if-not-branch.false

pub returns : goal.returns
returns c =
    went c.args.steps c.loop-made.made c.args.world.now c.loop-made.world c.args.a
    (omega (arith, c.loop-made-test.false, c.loop-made.auto.made-end)) c.loop-made.invariant
