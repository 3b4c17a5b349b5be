-- Lines in a text, and bytes in a line.
use Rattle.std.proofs.Common.{◌≡◌, ◌≢◌, ◌<◌, ◌≤◌, ◌+◌, ◌-◌, ◌==◌, ◌∷◌, [], ℕ, zero, suc, Bool, true, false, List}
use Rattle.std.proofs.Common.{drop, get_or, length, if◌then◌else◌, add-one, drop-cons, ap, sym, ◌∙◌, refl, arith}
use Rattle.std.proofs.lemmas.List.{drop_all, length-drop}
use Rattle.flt_server_outline.specs.Places.{left_after}
use Rattle.flt_places.specs.Places.{first_line, rest_behind}

-- a line is no longer than what is left of the text
pub within_line : (z : List ℕ) → length (first_line z) ≤ length z
within_line [] = omega arith
within_line (b ∷ z) = by (b == 10) (within_line z) where
  by : (is : Bool) → length (first_line z) ≤ length z → length (if is then [] else b ∷ first_line z) ≤ length (b ∷ z)
  by true others = omega arith
  by false others = omega (arith, others)

-- where a line begins
pub before_line : (text rest : List ℕ) (start : ℕ) → rest ≡ drop start text → start ≤ length text → length text - length rest ≡ start
before_line text rest start is low = rw (is, length-drop start text) (omega (arith, low))

-- one byte more
pub passes : (text : List ℕ) (at left : ℕ) → at < length text → left ≢ 0 →
    rest_behind (left_after left (get_or text at 0)) (drop (at + 1) text) ≡ rest_behind left (drop at text)
passes text at zero low some = absurd (some refl)
passes text at (suc left) low some = rw (add-one at, drop-cons text at 0 low) (by (get_or text at 0 == 10)) where
  by : (is : Bool) → rest_behind (if is then suc left - 1 else suc left) (drop (suc at) text) ≡
      (if is then rest_behind left (drop (suc at) text) else rest_behind (suc left) (drop (suc at) text))
  by true = let one : suc left - 1 ≡ left = omega arith in ap (λ n. rest_behind n (drop (suc at) text)) one
  by false = refl

-- the text has ended
none_left : (left : ℕ) → rest_behind left [] ≡ []
none_left zero = refl
none_left (suc left) = refl

-- all bytes were passed
pub at_end : (text all : List ℕ) (at left : ℕ) → length text ≤ at → rest_behind left (drop at text) ≡ all → all ≡ drop at text
at_end text all at left past is = sym is ∙ ap (rest_behind left) (drop_all at text past) ∙ none_left left ∙ sym (drop_all at text past)
