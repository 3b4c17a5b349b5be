-- Escaped bytes are read as they were.
use Rattle.std.proofs.Common.{◌≡◌, ℕ, zero, Bool, true, false, ◌==◌, [], ◌∷◌, ◌++◌, ap, sym, refl, ◌∙◌}
use Rattle.std.proofs.lemmas.Bool.{eqb-false, eqb-true}
use Rattle.flt_explain_html.specs.Escaping.{Text, escaped, escaped_byte}
use Rattle.flt_explain_html.specs.Read.{is_plain, read_behind, unescaped}

-- two numbers that differ do so the other way round
turned : (a b : ℕ) (c : Bool) → (b == a) ≡ c → (a == b) ≡ false → (b == a) ≡ false
turned a b false e f = e
turned a b true e f = absurd (eqb-false a b f (sym (eqb-true b a e)))

-- a byte that begins no name is read as it is
first_plain : (b : ℕ) (z : Text) → (38 == b) ≡ false → read_behind zero (b ∷ z) ≡ b ∷ read_behind zero z
first_plain b z e = rw e refl

-- a byte is read behind its name, whatever comes next
byte_read : (b : ℕ) (z : Text) (less greater and quote : Bool) → (b == 60) ≡ less → (b == 62) ≡ greater →
    (b == 38) ≡ and → (b == 34) ≡ quote →
    read_behind zero (escaped_byte b ++ z) ≡ b ∷ read_behind zero z
byte_read b z true greater and quote e f g h = rw e (ap (λ x. x ∷ read_behind zero z) (sym (eqb-true b 60 e)))
byte_read b z false true and quote e f g h = rw (e, f) (ap (λ x. x ∷ read_behind zero z) (sym (eqb-true b 62 f)))
byte_read b z false false true quote e f g h = rw (e, f, g) (ap (λ x. x ∷ read_behind zero z) (sym (eqb-true b 38 g)))
byte_read b z false false false true e f g h = rw (e, f, g, h) (ap (λ x. x ∷ read_behind zero z) (sym (eqb-true b 34 h)))
byte_read b z false false false false e f g h = rw (e, f, g, h) (first_plain b z (turned b 38 (38 == b) refl g))

-- escaped bytes are read back
pub all_read : (row : Text) → unescaped (escaped row) ≡ row
all_read [] = refl
all_read (b ∷ z) = byte_read b (escaped z) (b == 60) (b == 62) (b == 38) (b == 34) refl refl refl refl ∙ ap (λ x. b ∷ x) (all_read z)

-- a byte's name has no `<`, and neither has what comes next
byte_plain : (b : ℕ) (z : Text) (less greater and quote : Bool) → (b == 60) ≡ less → (b == 62) ≡ greater →
    (b == 38) ≡ and → (b == 34) ≡ quote →
    is_plain z ≡ true → is_plain (escaped_byte b ++ z) ≡ true
byte_plain b z true greater and quote e f g h rest = rw e rest
byte_plain b z false true and quote e f g h rest = rw (e, f) rest
byte_plain b z false false true quote e f g h rest = rw (e, f, g) rest
byte_plain b z false false false true e f g h rest = rw (e, f, g, h) rest
byte_plain b z false false false false e f g h rest = rw (e, f, g, h) (rw e rest)

-- escaped bytes are plain
pub all_plain : (row : Text) → is_plain (escaped row) ≡ true
all_plain [] = refl
all_plain (b ∷ z) = byte_plain b (escaped z) (b == 60) (b == 62) (b == 38) (b == 34) refl refl refl refl (all_plain z)
