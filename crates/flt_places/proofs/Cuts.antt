-- A text cut at the end of its first line.
use Prim.Native.Nat.compare
use Rattle.std.proofs.Common.{◌≡◌, ◌<◌, ◌≤◌, ◌+◌, ◌==◌, ℕ, suc, Bool, true, false, not, cond, Some, None, List}
use Rattle.std.proofs.Common.{[], ◌∷◌, ◌++◌, length, take, drop, map, nat_lt, ap, sym, refl, ◌∙◌, arith, rules}
use Rattle.std.specs.Borrow.{Bor}
use Rattle.std.specs.Prelude.{position}
use Rattle.std.specs.Option.{unwrap_or}
use Rattle.std.proofs.lemmas.Bool.{ltb-false}
use Rattle.std.proofs.lemmas.List.Sums.{prefix_len-le-length}
use Rattle.std.specs.List.{slice_split, onto_first, position_or_len}
use Rattle.std.proofs.lemmas.List.{append_assoc}
use Rattle.flt_tree.specs.Names.{Text}

-- what stands before the n-th byte, and the lines behind it; all of a text that isn't so long
abbrev cut_at : ℕ → Text → Bool → List Text
cut_at n z true = take n z ∷ slice_split (λ b. b == 10) (drop (suc n) z)
cut_at n z false = z ∷ []

one_more : (x n : ℕ) (xs : Text) (b : Bool) → onto_first x (cut_at n xs b) ≡ cut_at (suc n) (x ∷ xs) b
one_more x n xs true = refl
one_more x n xs false = refl

-- the lines of a text are its first one and those behind it
abbrev IsCut : Text → Type 0
IsCut z =
    slice_split (λ b. b == 10) z
    ≡ cut_at (position_or_len (λ b. b == 10) z) z (nat_lt (position_or_len (λ b. b == 10) z) (length z))

cut_before : (x : ℕ) (xs : Text) → IsCut xs → (b : Bool) → (x == 10) ≡ b → IsCut (x ∷ xs)
cut_before x xs is true e =
    let low : nat_lt 0 (suc (length xs)) ≡ true = search rules in
    rw e (sym (ap (cut_at 0 (x ∷ xs)) low))
cut_before x xs is false e =
    let next : 1 + position_or_len (λ b. b == 10) xs ≡ suc (position_or_len (λ b. b == 10) xs) = omega arith in
    rw (e, next, compare.suc-suc (suc (position_or_len (λ b. b == 10) xs)) (length xs)) (ap (onto_first x) is
    ∙ one_more x (position_or_len (λ b. b == 10) xs) xs (nat_lt (position_or_len (λ b. b == 10) xs) (length xs)))

cut : (z : Text) → IsCut z
cut [] = refl
cut (x ∷ xs) = cut_before x xs (cut xs) (x == 10) refl

-- where a line ends within a text, the text is that line and those behind it
first_line : (n : ℕ) (z : Text) → n ≡ position_or_len (λ b. b == 10) z → n < length z →
    slice_split (λ b. b == 10) z ≡ take n z ∷ slice_split (λ b. b == 10) (drop (n + 1) z)
first_line n z at less =
    let low : nat_lt n (length z) ≡ true = search rules in
    let next : n + 1 ≡ suc n = omega arith in
    rw next (cut z ∙ ap (λ m. cut_at m z (nat_lt m (length z))) (sym at) ∙ ap (cut_at n z) low)

-- where none does, it is one line
only_line : (n : ℕ) (z : Text) → n ≡ position_or_len (λ b. b == 10) z → length z ≤ n → slice_split (λ b. b == 10) z ≡ z ∷ []
only_line n z at past =
    let high : nat_lt n (length z) ≡ false = search rules in
    cut z ∙ ap (λ m. cut_at m z (nat_lt m (length z))) (sym at) ∙ ap (cut_at n z) high

mapped : (lines : List (Bor Text)) (one : Bor Text) → map (λ b. b.now) (lines ++ one ∷ []) ≡ map (λ b. b.now) lines ++ one.now ∷ []
mapped [] one = refl
mapped (l ∷ lines) one = ap (λ ls. l.now ∷ ls) (mapped lines one)

-- the lines so far with those of what is left, where one line more is cut off
pub one_line_more : (lines more : List (Bor Text)) (one : Bor Text) (n : ℕ) (z rest text : Text) → n ≡ position_or_len (λ b. b == 10) z →
    n < length z → one.now ≡ take n z → rest ≡ drop (n + 1) z → more ≡ lines ++ one ∷ [] →
    map (λ b. b.now) lines ++ slice_split (λ b. b == 10) z ≡ slice_split (λ b. b == 10) text →
    map (λ b. b.now) more ++ slice_split (λ b. b == 10) rest ≡ slice_split (λ b. b == 10) text
one_line_more lines more one n z rest text at less is left after so_far =
    rw (after, left, mapped lines one, is)
    (append_assoc (map (λ b. b.now) lines) (take n z ∷ []) (slice_split (λ b. b == 10) (drop (n + 1) z))
    ∙ ap (λ ls. map (λ b. b.now) lines ++ ls) (sym (first_line n z at less)) ∙ so_far)

-- the same of the last line
pub last_line_more : (lines more : List (Bor Text)) (last : Bor Text) (n : ℕ) (text : Text) → n ≡ position_or_len (λ b. b == 10) last.now →
    length last.now ≤ n → more ≡ lines ++ last ∷ [] →
    map (λ b. b.now) lines ++ slice_split (λ b. b == 10) last.now ≡ slice_split (λ b. b == 10) text →
    map (λ b. b.now) more ≡ slice_split (λ b. b == 10) text
last_line_more lines more last n text at past after so_far =
    rw (after, mapped lines last) (ap (λ ls. map (λ b. b.now) lines ++ ls) (sym (only_line n last.now at past)) ∙ so_far)

-- the first one that passes, or the end
pub first_or_end : {X : Type 0} (p : X → Bool) (xs : List X) → unwrap_or (position p xs) (length xs) ≡ position_or_len p xs
first_or_end p xs =
    by (nat_lt (position_or_len p xs) (length xs)) (ltb-false (position_or_len p xs) (length xs))
  where
    by : (b : Bool) → (b ≡ false → length xs ≤ position_or_len p xs) →
        unwrap_or (cond b (Some (position_or_len p xs)) None) (length xs) ≡ position_or_len p xs
    by true past = refl
    by false past =
        let within = prefix_len-le-length (λ x. not (p x)) xs in
        let end = past refl in
        omega arith
