-- Findings are shown from the last one to the first.
use Rattle.std.proofs.Common.{◌≡◌, ◌<◌, ◌+◌, ℕ, suc, List, [], ◌∷◌, ◌++◌, Some, length, get_or, slice_get}
use Rattle.std.proofs.Common.{reverse, arith, ap, sym, subst, refl, ◌∙◌, append_assoc, length-append}
use Rattle.std.specs.List.{AllZip}
use Rattle.std.proofs.lemmas.List.{reverse-append}
use Rattle.std.proofs.lemmas.Option.{slice_get-get_or}

-- what is within a list is there
pub found_there : {A : Type 0} (found : List A) (n : ℕ) (d : A) → n < length found → slice_get found n ≡ Some (get_or found n d)
found_there found n d less = slice_get-get_or found n d less

module _ {A B C : Type 0} (P : A → B → Type 0) (Q : A → C → Type 0) where
  -- the first of these have answers still, the others are shown, the last one first
  pub record IsSplit (found : List A) (answers : List B) (all : List C) : Type 0 where
    pub front : List A
    pub back : List A
    pub whole : found ≡ front ++ back
    pub answered : AllZip P front answers
    pub done : AllZip Q back (reverse all)

  -- before the first, all is left to be shown
  pub split_first : (found : List A) (answers : List B) (all : List C) → all ≡ [] → AllZip P found answers → IsSplit found answers all
  split_first found answers all none answered = subst (IsSplit found answers) (sym none) first where
    at_end : (xs : List A) → xs ≡ xs ++ []
    at_end [] = refl
    at_end (x ∷ xs) = ap (λ ys. x ∷ ys) (at_end xs)

    first : IsSplit found answers []
    first = record { front = found; back = []; whole = at_end found; answered = answered; done = tt }

  -- the last of those that have answers
  pub record IsNext (found : List A) (answers : List B) (answer : B) (all : List C) : Type 0 where
    pub front : List A
    pub one : A
    pub back : List A
    pub whole : found ≡ front ++ one ∷ back
    pub answered : AllZip P front answers
    pub is : P one answer
    pub done : AllZip Q back (reverse all)

  last_of : (front : List A) (answers : List B) (answer : B) → AllZip P front (answers ++ answer ∷ []) →
      (before : List A) × (one : A) × (front ≡ before ++ one ∷ []) × AllZip P before answers × P one answer
  last_of [] [] answer all = absurd all
  last_of [] (b ∷ answers) answer all = absurd all
  last_of (x ∷ []) [] answer all = ([], x, refl, tt, all.0)
  last_of (x ∷ y ∷ front) [] answer all = absurd all.1
  last_of (x ∷ front) (b ∷ answers) answer all =
      let r = last_of front answers answer all.1 in
      (x ∷ r.0, r.1, ap (λ xs. x ∷ xs) r.2, (all.0, r.3), r.4)

  -- the last that is left is the next
  pub split_last : (found : List A) (answers more : List B) (answer : B) (all : List C) → more ≡ answers ++ answer ∷ [] →
      IsSplit found more all → IsNext found answers answer all
  split_last found answers more answer all is h =
      let r = last_of h.front answers answer (subst (AllZip P h.front) is h.answered) in
      record {
        front = r.0;
        one = r.1;
        back = h.back;
        whole = h.whole ∙ ap (λ xs. xs ++ h.back) r.2 ∙ append_assoc r.0 (r.1 ∷ []) h.back;
        answered = r.3;
        is = r.4;
        done = h.done;
      }

  at_seam : (front back : List A) (x : A) → slice_get (front ++ x ∷ back) (length front) ≡ Some x
  at_seam [] back x = refl
  at_seam (y ∷ front) back x = at_seam front back x

  as_long : (front : List A) (answers : List B) → AllZip P front answers → length front ≡ length answers
  as_long [] [] all = refl
  as_long [] (b ∷ answers) all = absurd all
  as_long (x ∷ front) [] all = absurd all
  as_long (x ∷ front) (b ∷ answers) all = ap suc (as_long front answers all.1)

  -- the next one is within those that were found
  pub next_within : (found : List A) (answers : List B) (answer : B) (all : List C) → IsNext found answers answer all →
      length answers < length found
  next_within found answers answer all h =
      let long = as_long h.front answers h.answered in
      let whole = ap length h.whole in
      let parts = length-append h.front (h.one ∷ h.back) in
      let some : length (h.one ∷ h.back) ≡ suc (length h.back) = refl in
      omega (arith, long, whole, parts, some)

  -- it is the one at the number of those before
  is_next : (found : List A) (answers : List B) (answer : B) (all : List C) (n : ℕ) (x : A) → n ≡ length answers →
      slice_get found n ≡ Some x → (h : IsNext found answers answer all) → h.one ≡ x
  is_next found answers answer all n x at there h =
      let here : slice_get found n ≡ Some h.one =
      ap (λ xs. slice_get xs n) h.whole
      ∙ ap (λ m. slice_get (h.front ++ h.one ∷ h.back) m) (at ∙ sym (as_long h.front answers h.answered))
      ∙ at_seam h.front h.back h.one in
      let same : Some h.one ≡ Some x = sym here ∙ there in cc

  -- the next answer is that of the next finding
  pub next_one : (found : List A) (answers : List B) (answer : B) (all : List C) (n : ℕ) (x : A) → n ≡ length answers →
      slice_get found n ≡ Some x → IsNext found answers answer all → P x answer
  next_one found answers answer all n x at there h = subst (λ y. P y answer) (is_next found answers answer all n x at there h) h.is

  -- one more is shown, and one fewer is left
  pub split_more : (found : List A) (answers : List B) (answer : B) (all more : List C) (new : C) (n : ℕ) (x : A) → n ≡ length answers →
      slice_get found n ≡ Some x → IsNext found answers answer all → Q x new → more ≡ all ++ new ∷ [] → IsSplit found answers more
  split_more found answers answer all more new n x at there h is after =
      let turned : reverse more ≡ new ∷ reverse all = ap reverse after ∙ reverse-append all (new ∷ []) in
      record {
        front = h.front;
        back = h.one ∷ h.back;
        whole = h.whole;
        answered = h.answered;
        done = subst (AllZip Q (h.one ∷ h.back)) (sym turned)
            (subst (λ y. Q y new) (sym (is_next found answers answer all n x at there h)) is, h.done);
      }

  -- where nothing is left, all is shown, the other way round
  pub split_all : (found : List A) (answers : List B) (all : List C) → answers ≡ [] → IsSplit found answers all →
      AllZip Q found (reverse all)
  split_all found answers all none h =
      subst (λ xs. AllZip Q xs (reverse all)) (sym (h.whole ∙ ap (λ xs. xs ++ h.back) (empty h.front answers none h.answered))) h.done
    where
      empty : (front : List A) (answers : List B) → answers ≡ [] → AllZip P front answers → front ≡ []
      empty [] answers none all = refl
      empty (x ∷ front) [] none all = absurd all
      empty (x ∷ front) (b ∷ answers) none all = cc
