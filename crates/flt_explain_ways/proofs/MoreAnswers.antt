-- One finding more is answered.
use Rattle.std.proofs.Common.{◌≡◌, ◌<◌, ◌+◌, ℕ, zero, suc, List, [], ◌∷◌, ◌++◌, length, take, get_or, arith, subst}
use Rattle.std.specs.List.{AllZip}
use Rattle.flt_explain.specs.declared.finding.Finding.{Finding}
use Rattle.flt_graph.specs.declared.graph.Graph.{Graph}
use Rattle.flt_explain_ways.specs.Told.{IsAnswer}
use Rattle.flt_explain_origins.specs.declared.answer.Answer.{Answer}

one_more : {A B : Type 0} (R : A → B → Type 0) (xs : List A) (ys : List B) (i : ℕ) (x : A) (y : B) → i < length xs → x ≡ get_or xs i x →
    AllZip R (take i xs) ys → R x y → AllZip R (take (suc i) xs) (ys ++ y ∷ [])
one_more R [] ys i x y less is all new = elim less [ ]
one_more R (z ∷ xs) [] zero x y less is all new = (subst (λ z. R z y) is new, tt)
one_more R (z ∷ xs) (w ∷ ys) zero x y less is all new = absurd all
one_more R (z ∷ xs) [] (suc i) x y less is all new = absurd all
one_more R (z ∷ xs) (w ∷ ys) (suc i) x y less is all new = (all.0, one_more R xs ys i x y (omega (arith, less)) is all.1 new)

-- the findings up to the next one are answered, where those before it are, and it is
pub one_answer_more : (g : Graph) (found : List Finding) (i : ℕ) (f : Finding) (a : Answer) (all more : List Answer) →
    i < length found → f ≡ get_or found i f → AllZip (IsAnswer g) (take i found) all → IsAnswer g f a →
    more ≡ all ++ a ∷ [] → AllZip (IsAnswer g) (take (i + 1) found) more
one_answer_more g found i f a all more less is kept new after =
    let next : i + 1 ≡ suc i = omega arith in
    rw (next, after) (one_more (IsAnswer g) found all i f a less is kept new)
