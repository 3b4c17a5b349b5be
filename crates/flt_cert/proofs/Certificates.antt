-- Certificates as lists.
use Rattle.std.proofs.Common.{◌≡◌, ℕ, zero, suc, [], ◌∷◌, get_or, refl}
use Rattle.std.specs.Prelude.{slice_get, None}
use Rattle.flt_cert.specs.Format.{Certificate}

-- there are no points where there is no callback
pub no_points : (callbacks : Certificate) (k : ℕ) → slice_get callbacks k ≡ None → get_or callbacks k [] ≡ []
no_points [] k h = refl
no_points (points ∷ callbacks) zero h = cc
no_points (points ∷ callbacks) (suc k) h = no_points callbacks k h
