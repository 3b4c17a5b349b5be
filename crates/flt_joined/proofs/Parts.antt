-- Parts of lists, by the numbers of their elements.
use Rattle.std.proofs.Common.{◌≡◌, ◌∙◌, ◌<◌, ◌≤◌, ℕ, zero, suc, ◌+◌, ◌-◌, List, [], ◌∷◌, ◌++◌, ap, arith, drop}
use Rattle.std.proofs.Common.{get_or, length, length-drop, length-take, map, option_map, refl, sym, take}
use Rattle.std.proofs.lemmas.List.{drop_more}
use Rattle.std.proofs.lemmas.Option.{slice_get-map}
use Rattle.std.specs.List.{AllZip}
use Rattle.std.specs.Prelude.{slice_get, slice_range}

-- an element of some first elements
taken : {X : Type 0} (xs : List X) (n k : ℕ) → k < n → slice_get (take n xs) k ≡ slice_get xs k
taken [] zero k within = refl
taken [] (suc n) k within = refl
taken (x ∷ xs) zero k within = absurd (omega (arith, within))
taken (x ∷ xs) (suc n) zero within = refl
taken (x ∷ xs) (suc n) (suc k) within = taken xs n k (omega (arith, within))

-- an element behind some
behind : {X : Type 0} (xs : List X) (a k : ℕ) → slice_get (drop a xs) k ≡ slice_get xs (a + k)
behind xs zero k = let same : 0 + k ≡ k = omega arith in rw same refl
behind [] (suc a) k = refl
behind (x ∷ xs) (suc a) k = let same : suc a + k ≡ suc (a + k) = omega arith in rw same (behind xs a k)

-- an element of a part
pub in_part : {X Y : Type 0} (f : X → Y) (xs : List X) (a b k : ℕ) → k < b - a →
    slice_get (map f (slice_range xs a b)) k ≡ slice_get (map f xs) (a + k)
in_part f xs a b k within =
    slice_get-map f (slice_range xs a b) k ∙ ap (option_map f) (taken (drop a xs) (b - a) k within ∙ behind xs a k)
    ∙ sym (slice_get-map f xs (a + k))

-- a part with its first element
pub part_more : {X : Type 0} (xs : List X) (a b : ℕ) (d : X) → a < b → b ≤ length xs →
    slice_range xs a b ≡ get_or xs a d ∷ slice_range xs (a + 1) b
part_more xs a b d some within =
    let long : a < length xs = omega (arith, some, within) in
    let count : b - a ≡ suc (b - (a + 1)) = omega (arith, some) in
    rw (count, drop_more xs a d long) refl

-- the length of a part
pub part_length : {X : Type 0} (xs : List X) (a b : ℕ) → b ≤ length xs → length (slice_range xs a b) ≡ b - a
part_length xs a b within = omega (arith, within, length-take (b - a) (drop a xs), length-drop a xs)

-- two related lists behind others
pub zipped_on : {X Y : Type 0} (R : X → Y → Type 0) (xs : List X) (ys : List Y) (us : List X) (vs : List Y) → AllZip R xs ys →
    AllZip R us vs → AllZip R (xs ++ us) (ys ++ vs)
zipped_on R [] [] us vs first rest = rest
zipped_on R [] (y ∷ ys) us vs first rest = absurd first
zipped_on R (x ∷ xs) [] us vs first rest = absurd first
zipped_on R (x ∷ xs) (y ∷ ys) us vs first rest = (first.0, zipped_on R xs ys us vs first.1 rest)
