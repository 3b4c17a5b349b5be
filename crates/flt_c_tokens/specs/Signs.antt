-- The signs of C. The longest one that stands at the front of a text is taken.
use Rattle.std.specs.Prelude.{ℕ, ◌+◌, Bool, true, ◌&&◌, if◌then◌else◌, ◌==◌, List, [], ◌∷◌, length, codes}
use Rattle.flt_c_tokens.specs.Bytes.{Text, byte_at}
use Rattle.flt_c_tokens.specs.declared.piece.Part.TheVariants.{Sign}
use Rattle.flt_c_tokens.specs.declared.piece.Piece.{Piece}
use Rattle.flt_c_tokens.specs.declared.token.Kind.{Kind}
use Rattle.flt_c_tokens.specs.declared.token.Kind.TheVariants as k

abbrev pub piece : Kind → ℕ → Piece
piece kind n = record { part = Sign kind; length = n }

-- one of two signs, by whether `=` follows
abbrev pub with_equals : ℕ → Kind → Kind → Piece
with_equals next with alone = if next == 61 then piece with 2 else piece alone 1

-- longer signs stand before shorter ones; the last ones of a length are digraphs
abbrev pub signs : List (Text × Kind)
signs =
    (codes "%:%:", k.HashHash) ∷
    (codes "...", k.Ellipsis) ∷
    (codes "<<=", k.AssignLeft) ∷
    (codes ">>=", k.AssignRight) ∷
    (codes "::", k.DoubleColon) ∷
    (codes "->", k.Arrow) ∷
    (codes "+=", k.AssignSum) ∷
    (codes "-=", k.AssignDifference) ∷
    (codes "*=", k.AssignProduct) ∷
    (codes "/=", k.AssignQuotient) ∷
    (codes "%=", k.AssignRemainder) ∷
    (codes "&=", k.AssignAnd) ∷
    (codes "|=", k.AssignOr) ∷
    (codes "^=", k.AssignXor) ∷
    (codes "++", k.Increment) ∷
    (codes "--", k.Decrement) ∷
    (codes "<<", k.ShiftLeft) ∷
    (codes ">>", k.ShiftRight) ∷
    (codes "<=", k.LessEqual) ∷
    (codes ">=", k.GreaterEqual) ∷
    (codes "==", k.Equal) ∷
    (codes "!=", k.NotEqual) ∷
    (codes "&&", k.LogicalAnd) ∷
    (codes "||", k.LogicalOr) ∷
    (codes "##", k.HashHash) ∷
    (codes "<:", k.OpenBracket) ∷
    (codes ":>", k.CloseBracket) ∷
    (codes "<%", k.OpenBrace) ∷
    (codes "%>", k.CloseBrace) ∷
    (codes "%:", k.Hash) ∷
    (codes "(", k.OpenParen) ∷
    (codes ")", k.CloseParen) ∷
    (codes "[", k.OpenBracket) ∷
    (codes "]", k.CloseBracket) ∷
    (codes "{", k.OpenBrace) ∷
    (codes "}", k.CloseBrace) ∷
    (codes ";", k.Semicolon) ∷
    (codes ",", k.Comma) ∷
    (codes ":", k.Colon) ∷
    (codes "?", k.Question) ∷
    (codes ".", k.Dot) ∷
    (codes "=", k.Assign) ∷
    (codes "+", k.Plus) ∷
    (codes "-", k.Minus) ∷
    (codes "*", k.Star) ∷
    (codes "/", k.Slash) ∷
    (codes "%", k.Percent) ∷
    (codes "&", k.Ampersand) ∷
    (codes "|", k.Bar) ∷
    (codes "^", k.Caret) ∷
    (codes "~", k.Tilde) ∷
    (codes "!", k.Exclamation) ∷
    (codes "<", k.Less) ∷
    (codes ">", k.Greater) ∷
    (codes "#", k.Hash) ∷ []

-- a text begins with these bytes, from its n-th on
abbrev pub begins : ℕ → Text → Text → Bool
begins n [] z = true
begins n (c ∷ []) z = byte_at z n == c
begins n (c ∷ w) z = byte_at z n == c && begins (n + 1) w z

-- the first of some signs with which a text begins; a byte that begins none is stray
abbrev pub first_of_signs : List (Text × Kind) → Text → Piece
first_of_signs [] z = piece k.Stray 1
first_of_signs (s ∷ ss) z = if begins 0 s.0 z then piece s.1 (length s.0) else first_of_signs ss z

-- the sign that four bytes begin with
unfoldable pub sign_of : ℕ → ℕ → ℕ → ℕ → Piece
sign_of a b c d = first_of_signs signs (a ∷ b ∷ c ∷ d ∷ [])

-- the sign at the front of a text; no sign has more than four bytes, and none has a 0
unfoldable pub sign : Text → Piece
sign z = sign_of (byte_at z 0) (byte_at z 1) (byte_at z 2) (byte_at z 3)
