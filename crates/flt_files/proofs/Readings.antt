-- What is said of inputs that were read: of one, of two, and of a first one with others.
use Rattle.std.proofs.Common.{◌≡◌, ℕ, List, [], ◌∷◌, Some, Vec, Global, Result, length, drop, map, sym, ap, ◌∙◌, arith, slice_index_or}
use Rattle.std.proofs.lemmas.Slice.Zip.{AllZip-long}
use Rattle.flt_files.specs.Inputs.{AreGiven, Giving, Says, Text, given}
use Rattle.flt_files.specs.declared.failure.Failure.{Failure}

-- the bytes of an only input
pub only_one : (texts : List (Vec ℕ Global)) (x : Vec ℕ Global) → length texts ≡ 1 → x ≡ slice_index_or texts 0 x →
    map (λ t. t.items) texts ≡ x.items ∷ []
only_one [] x one at = absurd (omega (arith, one))
only_one (t ∷ []) x one at = ap (λ (v : Vec ℕ Global). v.items ∷ []) (sym at)
only_one (t ∷ u ∷ texts) x one at = absurd (omega (arith, one))

-- the bytes of two inputs
pub both : (texts : List (Vec ℕ Global)) (x y : Vec ℕ Global) → length texts ≡ 2 → x ≡ slice_index_or texts 0 x →
    y ≡ slice_index_or texts 1 y →
    map (λ t. t.items) texts ≡ x.items ∷ y.items ∷ []
both [] x y two first second = absurd (omega (arith, two))
both (t ∷ []) x y two first second = absurd (omega (arith, two))
both (t ∷ u ∷ []) x y two first second =
    ap (λ (v : Vec ℕ Global). v.items ∷ u.items ∷ []) (sym first) ∙ ap (λ (v : Vec ℕ Global). x.items ∷ v.items ∷ []) (sym second)
both (t ∷ u ∷ v ∷ texts) x y two first second = absurd (omega (arith, two))

module _ {A : Type 0} (gives : Giving) (IsSaidOf : List Text → Result A Failure → Type 0) (texts : List (Vec ℕ Global))
    (result : Result A Failure) where
  -- what is said of one input that was read
  pub says_of_one : (name : Text) (x : Vec ℕ Global) → length texts ≡ 1 → x ≡ slice_index_or texts 0 x →
      AreGiven gives (name ∷ []) (map (λ t. t.items) texts) →
      IsSaidOf (x.items ∷ []) result → Says gives (name ∷ []) IsSaidOf (map (λ t. t.items) texts) result
  says_of_one name x one at read said = given result read (rw (only_one texts x one at) said)

  -- what is said of two
  pub says_of_both : (name other : Text) (x y : Vec ℕ Global) → length texts ≡ 2 → x ≡ slice_index_or texts 0 x →
      y ≡ slice_index_or texts 1 y →
      AreGiven gives (name ∷ other ∷ []) (map (λ t. t.items) texts) → IsSaidOf (x.items ∷ y.items ∷ []) result →
      Says gives (name ∷ other ∷ []) IsSaidOf (map (λ t. t.items) texts) result
  says_of_both name other x y two first second read said = given result read (rw (both texts x y two first second) said)

-- what is said of a first input and of those behind it
pub says_of_first : {A : Type 0} (gives : Giving) (IsSaidOf : List Text → Result A Failure → Type 0) (texts : List (Vec ℕ Global))
    (result : Result A Failure) (first_name : Text)
    (names : List Text) (x : Vec ℕ Global) (others : List (Vec ℕ Global)) →
    x ≡ slice_index_or texts 0 x → others ≡ drop 1 texts → AreGiven gives (first_name ∷ names) (map (λ t. t.items) texts) →
    IsSaidOf (x.items ∷ map (λ t. t.items) others) result → Says gives (first_name ∷ names) IsSaidOf (map (λ t. t.items) texts) result
says_of_first gives IsSaidOf [] result first_name names x others first behind read said =
    absurd (omega (arith, AllZip-long {B = Text} (λ name text. gives name (Some text)) (first_name ∷ names) [] read.each))
says_of_first gives IsSaidOf (t ∷ texts) result first_name names x others first behind read said =
    let is_first : x ≡ t = first in
    let are_others : others ≡ texts = behind in
    given result read (rw (is_first, are_others) at said)
