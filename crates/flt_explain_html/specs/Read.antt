-- What is read of escaped bytes. The names are those of HTML.
use Rattle.std.specs.Prelude.{ℕ, zero, suc, ◌==◌, not, Bool, true, false, [], ◌∷◌, codes, eqb}
use Rattle.std.specs.List.{list_all, starts_with}
use Rattle.flt_explain_html.specs.Escaping.{Text}

-- the byte of the name with which bytes begin, and how many bytes of the name are behind its first; else their first byte
abbrev pub read_by : Bool → Bool → Bool → Bool → ℕ → ℕ × ℕ
read_by true greater and quote b = (60, 3)
read_by false true and quote b = (62, 3)
read_by false false true quote b = (38, 4)
read_by false false false true b = (34, 5)
read_by false false false false b = (b, 0)

-- the same of bytes with this first one
abbrev pub first_read : ℕ → Text → ℕ × ℕ
first_read b z =
    read_by (starts_with eqb (b ∷ z) (codes "&lt;")) (starts_with eqb (b ∷ z) (codes "&gt;")) (starts_with eqb (b ∷ z) (codes "&amp;"))
    (starts_with eqb (b ∷ z) (codes "&quot;")) b

-- what is read of bytes behind so many of a name
abbrev pub read_behind : ℕ → Text → Text
read_behind n [] = []
read_behind zero (b ∷ z) = (first_read b z).0 ∷ read_behind (first_read b z).1 z
read_behind (suc n) (b ∷ z) = read_behind n z

-- what is read of bytes: each name is one byte
abbrev pub unescaped : Text → Text
unescaped bytes = read_behind zero bytes

-- nothing in it begins an element
abbrev pub is_plain : Text → Bool
is_plain bytes = list_all (λ b. not (b == 60)) bytes
