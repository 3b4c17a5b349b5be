use Rattle.std.proofs.Common.{[], ◌∷◌, ◌++◌, None, ap, ◌∙◌}
use Rattle.flt_analyse.proofs.Walks.{nones_more}
use Rattle.flt_analyse.proofs.walk.Walk.open.Goals as goal

pub points-preserved : goal.points-preserved
points-preserved c = c.in_ok-push.ensures.ok ∙ (ap (λ xs. xs ++ None ∷ []) c.points.invariant ∙ nones_more c.points._point)
