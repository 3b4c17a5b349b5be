-- What comes of things one after the other, by their numbers.
use Rattle.std.proofs.Common.{◌≡◌, ◌∙◌, ℕ, suc, ◌+◌, ◌<◌, ◌≤◌, List, [], ◌∷◌, ◌++◌, length, drop, get_or, refl, ap, sym, arith}
use Rattle.std.proofs.Common.{append_assoc, append-nil, drop-cons}
use Rattle.std.proofs.lemmas.Grind.{common_steps}
use Rattle.flt_explain_parts.specs.Counted.{counted}

module _ {A : Type 0} {B : Type 0} (f : ℕ → A → List B) (all : List A) (i : ℕ) (one : A) (within : i < length all)
    (is : one ≡ get_or all i one) where
  -- the next one and the rest
  counted_drop : counted f i (drop i all) ≡ f i one ++ counted f (i + 1) (drop (i + 1) all)
  counted_drop =
      let cut : drop i all ≡ get_or all i one ∷ drop (suc i) all = drop-cons all i one within in
      let same : i + 1 ≡ suc i = omega arith in
      rw (cut, same, sym is) refl

  -- what is there with the rest, after one more
  pub one_counted_more : (start before after : List B) → before ++ counted f i (drop i all) ≡ start → after ≡ before ++ f i one →
      after ++ counted f (i + 1) (drop (i + 1) all) ≡ start
  one_counted_more start before after sofar added =
      rw added (append_assoc before (f i one) (counted f (i + 1) (drop (i + 1) all)) ∙ ap (λ bs. before ++ bs) (sym counted_drop) ∙ sofar)

module _ {A : Type 0} {B : Type 0} (f : ℕ → A → List B) (all : List A) where
  -- all are there
  pub all_counted : (i : ℕ) (start end : List B) → length all ≤ i → end ++ counted f i (drop i all) ≡ start → end ≡ start
  all_counted i start end past sofar =
      let none : drop i all ≡ [] = grind (arith, common_steps) in
      let same : end ++ [] ≡ start = rw none at sofar in
      sym (append-nil end) ∙ same
