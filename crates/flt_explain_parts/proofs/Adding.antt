-- Tokens that are written one behind the other.
use Rattle.std.proofs.Common.{◌≡◌, ℕ, zero, suc, ◌+◌, ◌<◌, List, [], ◌∷◌, ◌++◌, length, take, get_or, flat_map}
use Rattle.std.proofs.Common.{Result, Ok, Err, ◌∙◌, ap, append_assoc, append-nil, arith, refl, sym}
use Rattle.std.proofs.lemmas.Grind.{common_steps, flat_map-append}
use Rattle.std.specs.List.{range_with_len}
use Rattle.json.specs.Print.{print}
use Rattle.json.specs.Token.{Token}
use Rattle.json.specs.Written.{Written}
use Rattle.flt_explain_parts.specs.Members.{Added, Adds, line_of}

-- nothing is written
pub none_added : (a : Written) → Added a a []
none_added a = record { before = refl; tokens = sym (append-nil a.tokens) }

module _ {a b : Written} {xs ys : List Token} where
  -- the same tokens
  pub same_added : Added a b xs → xs ≡ ys → Added a b ys
  same_added added same = record { before = added.before; tokens = added.tokens ∙ ap (λ ts. a.tokens ++ ts) same }

  pub same_adds : {E : Type 0} {r : Result (Unit {0}) E} → Adds r a b xs → xs ≡ ys → Adds r a b ys
  same_adds {r = Ok u} adds same = record { ok = same_added adds.ok same }
  same_adds {r = Err e} adds same = record { ok = tt }

module _ {a b c : Written} {xs ys : List Token} where
  -- what stands behind what stands behind
  pub both : Added a b xs → Added b c ys → Added a c (xs ++ ys)
  both first second = record {
    before = second.before ∙ first.before;
    tokens = second.tokens ∙ ap (λ ts. ts ++ ys) first.tokens ∙ append_assoc a.tokens xs ys;
  }

  -- the same of what is written last
  pub behind : {E : Type 0} {r : Result (Unit {0}) E} → Added a b xs → Adds r b c ys → Adds r a c (xs ++ ys)
  behind {r = Ok u} first second = record { ok = both first second.ok }
  behind {r = Err e} first second = record { ok = tt }

module _ {A : Type 0} (f : A → List Token) (all : List A) (i : ℕ) (one : A) where
  -- what is written of one more
  pub one_more : {a b c : Written} → i < length all → one ≡ get_or all i one → Added a b (flat_map f (take i all)) → Added b c (f one) →
      Added a c (flat_map f (take (i + 1) all))
  one_more {a} {b} {c} within is first second =
      let more : flat_map f (take (i + 1) all) ≡ flat_map f (take i all) ++ f one = grind (arith, common_steps) in
      rw more (both first second)

range_more : (from count : ℕ) → range_with_len from (count + 1) ≡ range_with_len from count ++ (from + count) ∷ []
range_more from zero = let e : from ≡ from + 0 = omega arith in ap (λ n. n ∷ []) e
range_more from (suc count) =
    let e : suc count + 1 ≡ suc (count + 1) = omega arith in
    let f : from + 1 + count ≡ from + suc count = omega arith in
    rw e (ap (λ ns. from ∷ ns) (range_more (from + 1) count ∙ ap (λ n. range_with_len (from + 1) count ++ n ∷ []) f))

module _ (f : ℕ → List Token) (count : ℕ) where
  -- what is written of one number more
  pub one_number_more : {a b c : Written} → Added a b (flat_map f (range_with_len 0 count)) → Added b c (f count) →
      Added a c (flat_map f (range_with_len 0 (count + 1)))
  one_number_more first second =
      let e : 0 + count ≡ count = omega arith in
      let more : flat_map f (range_with_len 0 (count + 1)) ≡ flat_map f (range_with_len 0 count) ++ f count =
      ap (flat_map f) (range_more 0 count ∙ ap (λ n. range_with_len 0 count ++ n ∷ []) e)
      ∙ flat_map-append f (range_with_len 0 count) (count ∷ []) ∙
      ap (λ z. flat_map f (range_with_len 0 count) ++ z) (append-nil (f count)) in
      rw more (both first second)

-- what a writer wrote behind some bytes, and a line feed
pub written : {a b : Written} (out whole ended : List ℕ) (ts : List Token) → a.before ≡ out → a.tokens ≡ [] → Added a b ts →
    whole ≡ b.before ++ print b.tokens → ended ≡ whole ++ 10 ∷ [] → ended ≡ out ++ line_of ts
written out whole ended ts own none added all last =
    rw (last, all, added.before, added.tokens, own, none) (append_assoc out (print ts) (10 ∷ []))

module _ {A : Type 0} (f : A → List ℕ) (all : List A) (i : ℕ) (one : A) where
  -- the lines of one more
  pub one_line_more : (start before after : List ℕ) → i < length all → one ≡ get_or all i one → before ≡ start ++ flat_map f (take i all) →
      after ≡ before ++ f one → after ≡ start ++ flat_map f (take (i + 1) all)
  one_line_more start before after within is first second =
      let more : flat_map f (take (i + 1) all) ≡ flat_map f (take i all) ++ f one = grind (arith, common_steps) in
      rw (second, first, more) (append_assoc start (flat_map f (take i all)) (f one))
