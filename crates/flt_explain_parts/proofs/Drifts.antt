-- Drifts, one after the other.
use Rattle.std.proofs.Common.{◌≡◌, ℕ, zero, suc, ◌<◌, List, [], ◌∷◌, None, arith, get_or, length, refl}
use Rattle.flt_c_drift.specs.declared.drift.Drift.{Drift}
use Rattle.flt_c_drift.specs.declared.drift.DriftKind.TheVariants.{NotCalled}

-- what is read where there is no drift
abbrev pub no_drift : Drift
no_drift = record { kind = NotCalled; start = 0; length = 0; other = None }

-- what is read at a place that is there, is there
pub read_at : {A : Type 0} (all : List A) (i : ℕ) (d : A) → i < length all → get_or all i d ≡ get_or all i (get_or all i d)
read_at [] i d within = absurd (omega (arith, within))
read_at (x ∷ all) zero d within = refl
read_at (x ∷ all) (suc i) d within = read_at all i d (omega (arith, within))
