-- The last step.
use Rattle.std.proofs.Common.{◌≡◌, ◌+◌, ℕ, zero, suc, List, [], ◌∷◌, length, slice_index_or, arith, refl}
use Rattle.std.specs.Prelude.{◌==◌}
use Rattle.flt_explain_origins.specs.Ways.{is_last}
use Rattle.flt_explain_origins.specs.declared.answer.Step.{Step}

-- the step at the last place is the last
pub last_at : (steps : List Step) (i p : ℕ) (d : Step) → i + 1 ≡ length steps → ((slice_index_or steps i d).point == p) ≡ is_last steps p
last_at [] i p d h = absurd (omega (arith, h))
last_at (s ∷ []) zero p d h = refl
last_at (s ∷ []) (suc i) p d h = absurd (omega (arith, h))
last_at (s ∷ r ∷ steps) zero p d h = absurd (omega (arith, h))
last_at (s ∷ r ∷ steps) (suc i) p d h = last_at (r ∷ steps) i p d (omega (arith, h))
