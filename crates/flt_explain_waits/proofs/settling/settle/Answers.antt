use Rattle.std.proofs.Common.{◌≡◌, ◌∙◌, [], true, false, sym}
use Rattle.flt_model.specs.Steps.{local}
use Rattle.flt_explain_waits.proofs.LocalSteps.{enabled, one_more}
use Rattle.flt_explain_waits.proofs.settling.settle.Goals as goal

pub unreachable-requires : goal.unreachable-requires
unreachable-requires c =
    let on : c.in_ok-step_unseen.field-0 ≡ true =
    enabled (local [] [] c.upcoming.new.world c.args.a) c.in_ok-step_unseen.field-0 c.step_unseen.new.world
    (c.in_ok-step_unseen.ensures [] []) (c.if-not-goes_locally.ensures (rw c.in_ok-next.ensures.same c.in_ok-next.ensures.first)) in
    let no : true ≡ false = sym on ∙ c.if-not-branch.true in
    absurd (cc)

pub loop-made-preserved : goal.loop-made-preserved
loop-made-preserved c =
    one_more c.loop-made._made c.args.world.now c.upcoming.new.world c.step_unseen.new.world c.args.a c.in_ok-step_unseen.field-0
    (rw c.in_ok-next.ensures.same c.loop-made.invariant) (c.in_ok-step_unseen.ensures [] []) c.if-not-branch.false
