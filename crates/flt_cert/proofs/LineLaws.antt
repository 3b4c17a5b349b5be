-- The first line of a text.
use Rattle.std.proofs.Common.{◌≡◌, ◌<◌, ◌≤◌, ◌+◌, ℕ, suc, Bool, true, false, List, [], ◌∷◌, length, take, drop, refl, ap, arith}
use Rattle.std.specs.Prelude.{◌==◌, if◌then◌else◌, Err}
use Rattle.std.specs.List.{position_or_len}
use Rattle.std.proofs.lemmas.Bool.{eqb-true}
use Rattle.flt_cert.specs.Text.{Text, lines_of, begun_by}
use Rattle.flt_cert.specs.Reading.{Place, closed_by}

abbrev length_before : Text → ℕ
length_before = position_or_len (λ b. b == 10)

Whole : Text → Type 0
Whole text = lines_of text ≡ take (length_before text + 1) text ∷ lines_of (drop (length_before text + 1) text)

first_byte : (b : ℕ) (text : Text) (x : Bool) → (b == 10) ≡ x → length_before (b ∷ text) < length (b ∷ text) →
    (length_before text < length text → Whole text) → Whole (b ∷ text)
unfolding Whole
first_byte b text true e h whole = let ten : b ≡ 10 = eqb-true b 10 e in rw (e, ten) refl
first_byte b text false e h whole =
    let len : 1 + length_before text + 1 ≡ suc (length_before text + 1) = omega arith in
    rw (e, len) (rw (whole (omega (arith, rw e at h))) refl)

whole : (text : Text) → length_before text < length text → Whole text
whole [] h = absurd (omega arith)
whole (b ∷ text) h = first_byte b text (b == 10) refl h (whole text)

-- a line that ends with LF
pub whole_line : (text : Text) (len : ℕ) → len ≡ position_or_len (λ b. b == 10) text → len < length text →
    lines_of text ≡ take (len + 1) text ∷ lines_of (drop (len + 1) text)
unfolding Whole
whole_line text len e h = rw e (whole text (rw e at h))

unended : (text : Text) → length text ≤ length_before text → 0 < length text → lines_of text ≡ text ∷ []
unended [] h k = absurd (omega arith)
unended (b ∷ text) h k = by_byte (b == 10) refl text h (unended text)
  where
    by_byte : (x : Bool) → (b == 10) ≡ x → (text : Text) → length (b ∷ text) ≤ length_before (b ∷ text) →
        (length text ≤ length_before text → 0 < length text → lines_of text ≡ text ∷ []) → lines_of (b ∷ text) ≡ (b ∷ text) ∷ []
    by_byte true e text h rest = absurd (omega (arith, rw e at h))
    by_byte false e [] h rest = rw e refl
    by_byte false e (c ∷ text) h rest = rw e (rw (rest (omega (arith, rw e at h)) (omega arith)) refl)

whole_front : (text : Text) → take (length text) text ≡ text
whole_front [] = refl
whole_front (b ∷ text) = ap (λ z. b ∷ z) (whole_front text)

nothing_after : (text : Text) → drop (length text) text ≡ []
nothing_after [] = refl
nothing_after (b ∷ text) = nothing_after text

-- the last line, without LF
pub unended_line : (text : Text) (len : ℕ) → 0 < length text → len ≡ position_or_len (λ b. b == 10) text → length text ≤ len →
    lines_of text ≡ take (length text) text ∷ lines_of (drop (length text) text)
unended_line text len k e h = rw (whole_front text, nothing_after text) (unended text (rw e at h) k)

-- a text that isn't empty has a line
pub some_line : (text : Text) → 0 < length text → (line : Text) × (lines : List Text) × (lines_of text ≡ line ∷ lines)
some_line [] h = absurd (omega arith)
some_line (b ∷ text) h = by_byte (b == 10) (lines_of text)
  where
    by_byte : (x : Bool) (lines : List Text) → (line : Text) × (after : List Text)
        × ((if x then (10 ∷ []) ∷ lines else begun_by b lines) ≡ line ∷ after)
    by_byte true lines = (_, _, refl)
    by_byte false [] = (_, _, refl)
    by_byte false (line ∷ lines) = (_, _, refl)

-- a text that goes on after its last line is refused at the next line
pub closed_more : (text : Text) (i : Place) → 0 < length text → closed_by (lines_of text) i ≡ Err (i.number + 1)
closed_more text i h = let some = some_line text h in rw some.2 refl
