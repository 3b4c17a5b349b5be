-- One acquisition more has one that waits at it.
use Rattle.std.proofs.Common.{◌≡◌, ◌<◌, ◌+◌, ℕ, zero, suc, List, [], ◌∷◌, ◌++◌, length, take, get_or, arith}
use Rattle.std.specs.List.{AllZip}
use Rattle.flt_order.specs.declared.order.Acquisition.{Acquisition}
use Rattle.flt_search_deadlocks.specs.Deadlocks.{WaitsAt}
use Rattle.flt_explain_waits.specs.declared.waits.BlockedActivation.{BlockedActivation}

one_more : {A B : Type 0} (R : A → B → Type 0) (xs : List A) (ys : List B) (i : ℕ) (d : A) (y : B) → i < length xs →
    AllZip R (take i xs) ys → R (get_or xs i d) y → AllZip R (take (suc i) xs) (ys ++ y ∷ [])
one_more R [] ys i d y less all new = elim less [ ]
one_more R (z ∷ xs) [] zero d y less all new = (new, tt)
one_more R (z ∷ xs) (w ∷ ys) zero d y less all new = absurd all
one_more R (z ∷ xs) [] (suc i) d y less all new = absurd all
one_more R (z ∷ xs) (w ∷ ys) (suc i) d y less all new = (all.0, one_more R xs ys i d y (omega (arith, less)) all.1 new)

-- the acquisitions up to the next one have one each, where those before it do, and it does
pub one_waits_more : (number : ℕ) (circle : List Acquisition) (i : ℕ) (d : Acquisition)
    (b : BlockedActivation) (round more : List BlockedActivation) →
    i < length circle → AllZip (WaitsAt number) (take i circle) round → WaitsAt number (get_or circle i d) b →
    more ≡ round ++ b ∷ [] → AllZip (WaitsAt number) (take (i + 1) circle) more
one_waits_more number circle i d b round more less kept new after =
    let next : i + 1 ≡ suc i = omega arith in
    rw (next, after) (one_more (WaitsAt number) circle round i d b less kept new)
