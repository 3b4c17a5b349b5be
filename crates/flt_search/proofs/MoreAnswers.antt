-- One goal more is answered.
use Rattle.std.proofs.Common.{◌≡◌, ◌<◌, ◌+◌, ℕ, zero, suc, List, [], ◌∷◌, ◌++◌, length, take, get_or, arith}
use Rattle.std.specs.List.{AllZip}
use Rattle.flt_tree.specs.declared.filter.Filter.{Filter}
use Rattle.flt_search.specs.Found.{IsAnswer, AreAnswers}
use Rattle.flt_search.specs.declared.answering.Answer.{Answer}
use Rattle.flt_search.specs.declared.goal.Goal.{Goal}

one_more : {A B : Type 0} (R : A → B → Type 0) (xs : List A) (ys : List B) (i : ℕ) (d : A) (y : B) → i < length xs →
    AllZip R (take i xs) ys → R (get_or xs i d) y → AllZip R (take (suc i) xs) (ys ++ y ∷ [])
one_more R [] ys i d y less all new = elim less [ ]
one_more R (z ∷ xs) [] zero d y less all new = (new, tt)
one_more R (z ∷ xs) (w ∷ ys) zero d y less all new = absurd all
one_more R (z ∷ xs) [] (suc i) d y less all new = absurd all
one_more R (z ∷ xs) (w ∷ ys) (suc i) d y less all new = (all.0, one_more R xs ys i d y (omega (arith, less)) all.1 new)

-- the goals up to the next one are answered, where those before it are, and it is
pub one_answer_more : (p : List Filter) (goals : List Goal) (i : ℕ) (d : Goal) (a : Answer) (all more : List Answer) →
    i < length goals → AreAnswers p (take i goals) all → IsAnswer p (get_or goals i d) a →
    more ≡ all ++ a ∷ [] → AreAnswers p (take (i + 1) goals) more
one_answer_more p goals i d a all more less kept new after =
    let next : i + 1 ≡ suc i = omega arith in
    rw (next, after) (one_more (IsAnswer p) goals all i d a less kept new)
