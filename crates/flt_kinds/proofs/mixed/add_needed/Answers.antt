use Rattle.std.proofs.Common.{◌∙◌, ◌++◌, ap}
use Rattle.flt_kinds.specs.Deciding.{only}
use Rattle.flt_kinds.specs.Flows.{spot}
use Rattle.flt_kinds.proofs.Steps.{needed_next}
use Rattle.flt_kinds.proofs.mixed.add_needed.Goals as goal

pub loop-point-preserved : goal.loop-point-preserved
loop-point-preserved c =
    needed_next _ _ _ _ _ _ _ c.loop-point.invariant
    (c.in_ok-add_only.ensures ∙ ap (λ b. c.loop-point.out.items ++ only b (spot c.args.callback c.loop-point.point)) c.is_needed-is.ensures)
