-- Texts by number in a set of vectors: what is asked of the vectors is asked of their bytes.
use Rattle.std.proofs.Common.{◌≡◌, ℕ, ◌+◌, ◌≤◌, Bool, true, false, cond, not, List, [], ◌∷◌, ◌++◌, map, length}
use Rattle.std.proofs.Common.{refl, sym, ap, subst, ◌∙◌}
use Rattle.std.proofs.lemmas.List.{map-append}
use Rattle.std.specs.List.{AllByRecursion, IsDistinct, list_any, position_or_len}
use Rattle.std.specs.Prelude.{Option, Some, None, ◌||◌, if◌then◌else◌, nat_lt, position}
use Rattle.std.specs.Str.{bytes_eq}
use Rattle.flt_c_tokens.specs.Bytes.{Text}
use Rattle.flt_c_tokens.specs.Spelled.{IsFound, IsNumbered, Knows, has_text, max_spellings, number_of, with_text}
use Rattle.flt_c_tokens.specs.Vocabulary.{kind_at}
use Rattle.flt_c_tokens.proofs.Known.{kind_of_number}
use Rattle.flt_c_tokens.proofs.Spelling.{knows_more, number_added, with_goes_on, with_length}

module _ {X : Type 0} (f : X → Text) where
  pub any_of : (p : Text → Bool) (xs : List X) → list_any p (map f xs) ≡ list_any (λ x. p (f x)) xs
  any_of p [] = refl
  any_of p (x ∷ xs) = ap (λ b. p (f x) || b) (any_of p xs)

  pub place_of : (p : Text → Bool) (xs : List X) → position_or_len p (map f xs) ≡ position_or_len (λ x. p (f x)) xs
  place_of p [] = refl
  place_of p (x ∷ xs) = ap (λ n. cond (not (p (f x))) (1 + n) 0) (place_of p xs)

  -- elements are distinct by their texts where these are
  others : (eq : Text → Text → Bool) (w : Text) (xs : List X) → AllByRecursion (λ x. eq w (f x) ≡ false) xs →
      AllByRecursion (λ y. eq w y ≡ false) (map f xs)
  others eq w [] h = h
  others eq w (x ∷ xs) h = (h.0, others eq w xs h.1)

  pub distinct_of : (eq : Text → Text → Bool) (xs : List X) → IsDistinct (λ a b. eq (f a) (f b)) xs → IsDistinct eq (map f xs)
  unfolding IsDistinct
  distinct_of eq [] h = h
  distinct_of eq (x ∷ xs) h = (others eq (f x) xs h.0, distinct_of eq xs h.1)

  -- the number at which a text was found
  found_at : (q : X → Bool) (xs : List X) (i : ℕ) → position q xs ≡ Some i → position_or_len q xs ≡ i
  found_at q xs i e = by (nat_lt (position_or_len q xs) (length xs)) refl
    where
      by : (b : Bool) → nat_lt (position_or_len q xs) (length xs) ≡ b → position_or_len q xs ≡ i
      by true h =
          let same : Some (position_or_len q xs) ≡ Some i = sym (ap (λ b. cond b (Some (position_or_len q xs)) None) h) ∙ e in cc
      by false h = let other : None ≡ Some i = sym (ap (λ b. cond b (Some (position_or_len q xs)) None) h) ∙ e in cc

  pub number_there : (w : Text) (xs : List X) (i : ℕ) → Some i ≡ position (λ x. bytes_eq w (f x)) xs → i ≡ number_of (map f xs) w
  unfolding number_of
  number_there w xs i e = sym (found_at (λ x. bytes_eq w (f x)) xs i (sym e)) ∙ sym (place_of (bytes_eq w) xs)

  -- a text that is there leaves the table as it is
  pub with_there : (w : Text) (xs : List X) → true ≡ list_any (λ x. bytes_eq w (f x)) xs → with_text (map f xs) w ≡ map f xs
  unfolding with_text
  with_there w xs e = rw (any_of (bytes_eq w) xs ∙ sym e) refl

  -- the table after a text is inserted
  pub with_inserted : (w : Text) (xs : List X) (x : X) → f x ≡ w →
      map f (if list_any (λ y. bytes_eq (f x) (f y)) xs then xs else xs ++ x ∷ []) ≡ with_text (map f xs) w
  unfolding with_text
  with_inserted w xs x same = by (list_any (λ y. bytes_eq w (f y)) xs) refl
    where
      by : (b : Bool) → list_any (λ y. bytes_eq w (f y)) xs ≡ b →
          map f (if list_any (λ y. bytes_eq (f x) (f y)) xs then xs else xs ++ x ∷ [])
          ≡ (if has_text (map f xs) w then map f xs else map f xs ++ w ∷ [])
      by true e =
          let here : list_any (λ y. bytes_eq (f x) (f y)) xs ≡ true = ap (λ t. list_any (λ y. bytes_eq t (f y)) xs) same ∙ e in
          let there : has_text (map f xs) w ≡ true = any_of (bytes_eq w) xs ∙ e in
          rw (here, there) refl
      by false e =
          let here : list_any (λ y. bytes_eq (f x) (f y)) xs ≡ false = ap (λ t. list_any (λ y. bytes_eq t (f y)) xs) same ∙ e in
          let there : has_text (map f xs) w ≡ false = any_of (bytes_eq w) xs ∙ e in
          rw (here, there) (map-append f xs (x ∷ []) ∙ ap (λ t. map f xs ++ t ∷ []) same)

  pub number_inserted : (w : Text) (xs : List X) (x : X) (i : ℕ) → f x ≡ w → i ≡ position_or_len (λ y. bytes_eq (f x) (f y)) xs →
      i ≡ number_of (map f xs) w
  unfolding number_of
  number_inserted w xs x i same e = e ∙ ap (λ t. position_or_len (λ y. bytes_eq t (f y)) xs) same ∙ sym (place_of (bytes_eq w) xs)

  -- a text that was found, and one that was not, in a table of these texts
  pub found_in : (w : Text) (xs : List X) (known : List Text) (i : ℕ) → map f xs ≡ known → Knows (map f xs) →
      Some i ≡ position (λ x. bytes_eq w (f x)) xs → true ≡ list_any (λ x. bytes_eq w (f x)) xs → IsFound known w (Some i)
  found_in w xs known i view r e h =
      let n = number_there w xs i e in
      subst (λ ts. IsFound ts w (Some i)) view
      (any_of (bytes_eq w) xs ∙ sym h, n, ap kind_at n ∙ kind_of_number (map f xs) w r)

  pub missing_in : (w : Text) (xs : List X) (known : List Text) → map f xs ≡ known →
      false ≡ list_any (λ x. bytes_eq w (f x)) xs → IsFound known w None
  missing_in w xs known view h = subst (λ ts. has_text ts w ≡ false) view (any_of (bytes_eq w) xs ∙ sym h)

-- a text that was looked for in a full table has the number that it has
pub full_numbered : (known : List Text) (w : Text) (r : Option ℕ) → length known ≡ max_spellings → IsFound known w r →
    IsNumbered known w r known
unfolding with_text
full_numbered known w None full h = (refl, full, h)
full_numbered known w (Some n) full h = let e = h.0 in (sym (rw e refl), h.1, h.2)

-- a text that was added has its number
pub added_numbered : (known old next : List Text) (w : Text) (n : ℕ) → old ≡ known → Knows old → next ≡ with_text old w →
    n ≡ number_of old w → IsNumbered known w (Some n) next
added_numbered known old next w n view r e h =
    subst (λ ts. IsNumbered ts w (Some n) next) view
    (e, h ∙ sym (number_added old w) ∙ ap (λ ts. number_of ts w) (sym e), ap kind_at h ∙ kind_of_number old w r)

-- and the table still begins with the words of C, and isn't overfull
pub added_knows : (old next : List Text) (w : Text) → Knows old → next ≡ with_text old w → Knows next
added_knows old next w r e = subst Knows (sym e) (knows_more r (with_goes_on old w))

pub added_length : (old next : List Text) (w : Text) → next ≡ with_text old w → length next ≤ length old + 1
added_length old next w e = subst (λ ts. length ts ≤ length old + 1) (sym e) (with_length old w)
