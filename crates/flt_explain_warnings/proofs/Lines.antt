-- A line of a text is the same as it is cut and as it is found by its number.
use Rattle.std.proofs.Common.{◌≡◌, ◌==◌, ◌+◌, ◌-◌, ◌∙◌, ℕ, zero, suc, Bool, true, false, List, [], ◌∷◌, ap, arith, get_or, refl}
use Rattle.std.specs.List.{onto_first, slice_split}
use Rattle.flt_places.specs.Places.{first_line, line_of, rest_behind}
use Rattle.flt_tree.specs.Names.{Text}

-- the lines of a text
abbrev pub cut : Text → List Text
cut text = slice_split (λ b. b == 10) text

later_line : (b : ℕ) (lines : List Text) (n : ℕ) → get_or (onto_first b lines) (suc n) [] ≡ get_or lines (suc n) []
later_line b [] n = refl
later_line b (line ∷ lines) n = refl

longer_line : (b : ℕ) (lines : List Text) → get_or (onto_first b lines) 0 [] ≡ b ∷ get_or lines 0 []
longer_line b [] = refl
longer_line b (line ∷ lines) = refl

module _ (b : ℕ) (z : Text) (others : (n : ℕ) → first_line (rest_behind n z) ≡ get_or (cut z) n []) where
  one_byte_more : (n : ℕ) (t : Bool) → (b == 10) ≡ t → first_line (rest_behind n (b ∷ z)) ≡ get_or (cut (b ∷ z)) n []
  one_byte_more zero true e = rw e refl
  one_byte_more (suc n) true e = rw e (others n)
  one_byte_more zero false e = rw (e, longer_line b (cut z)) (ap (λ line. b ∷ line) (others 0))
  one_byte_more (suc n) false e = rw (e, later_line b (cut z) n) (others (suc n))

found_line : (z : Text) (n : ℕ) → first_line (rest_behind n z) ≡ get_or (cut z) n []
found_line [] zero = refl
found_line [] (suc n) = refl
found_line (b ∷ z) n = one_byte_more b z (found_line z) n (b == 10) refl

-- a line is the same cut from the text and found by its number
pub line_at : (text : Text) (n : ℕ) → line_of text (n + 1) ≡ get_or (cut text) n []
line_at text n =
    let same : n + 1 - 1 ≡ n = omega arith in
    rw same (found_line text n)
