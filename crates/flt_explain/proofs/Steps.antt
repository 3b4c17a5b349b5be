-- One more step of a loop over lists of sets.
use Rattle.std.proofs.Common.{◌≡◌, ℕ, zero, suc, ◌<◌, ◌≤◌, false, List, [], ◌∷◌, ◌++◌, length, take, drop, set, get_or, refl, ap, arith}
use Rattle.std.specs.Prelude.{map}
use Rattle.flt_abs.specs.Sets.{StatusSet}
use Rattle.flt_explain.specs.Sets.{or_all, are_same}

-- all in place of one more empty set
pub fill_step : (xs : List StatusSet) (i : ℕ) (d : StatusSet) → i < length xs →
    take i xs ++ map or_all (drop i xs)
    ≡ take (suc i) (set xs i (or_all (get_or xs i d))) ++ map or_all (drop (suc i) (set xs i (or_all (get_or xs i d))))
fill_step [] i d h = absurd (omega arith)
fill_step (x ∷ xs) zero d h = refl
fill_step (x ∷ xs) (suc i) d h = ap (λ zs. x ∷ zs) (fill_step xs i d (omega arith))

-- a list isn't the same as an empty one
pub more_not_same : (xs ys : List StatusSet) → 1 ≤ length xs → length ys ≡ 0 → are_same xs ys ≡ false
more_not_same [] ys h e = absurd (omega arith)
more_not_same (x ∷ xs) [] h e = refl
more_not_same (x ∷ xs) (y ∷ ys) h e = absurd (omega arith)
