-- What stands at the front of a text: a blank, a line feed, or a token. The C standard's translation phases 2 and 3.
use Rattle.std.specs.Prelude.{ℕ, Bool, false, ◌&&◌, ◌||◌, if◌then◌else◌, ◌==◌, [], ◌∷◌, drop, codes}
use Rattle.std.specs.List.{list_any}
use Rattle.flt_c_tokens.specs.Bytes.{Text, byte_at, is_blank, is_digit, is_exponent, is_word}
use Rattle.flt_c_tokens.specs.Scan.{block_from, continuations_from, line_from}
use Rattle.flt_c_tokens.specs.Signs.{piece, sign, signs}
use Rattle.flt_c_tokens.specs.Words.{character, number, string, word}
use Rattle.flt_c_tokens.specs.declared.piece.Part.TheVariants.{Blank, Feed}
use Rattle.flt_c_tokens.specs.declared.piece.Piece.{Piece}
use Rattle.flt_c_tokens.specs.declared.scan.Closing.{Closing}
use Rattle.flt_c_tokens.specs.declared.token.Kind.TheVariants as k

abbrev pub blank : ℕ → Piece
blank n = record { part = Blank; length = n }

abbrev pub feed : Piece
feed = record { part = Feed; length = 1 }

-- ---- continuations

-- the last letters of the prefixes of strings
abbrev pub ends_prefix : ℕ → Bool
ends_prefix b = b == 76 || b == 117 || b == 85 || b == 56 || b == 82

-- two bytes can stand one after another in a word, in a number, or where a prefix and its quote meet
abbrev pub join_in_words : ℕ → ℕ → Bool
join_in_words a b =
    if a == 46 then is_digit b
    else is_word a && (is_word b || b == 46 || b == 39 || b == 34 && ends_prefix a || (b == 43 || b == 45) && is_exponent a)

-- two bytes stand one after another in a text
abbrev pub stand_in : ℕ → ℕ → Text → Bool
stand_in a b [] = false
stand_in a b (c ∷ []) = false
stand_in a b (c ∷ d ∷ w) = a == c && b == d || stand_in a b (d ∷ w)

-- two bytes stand one after another in a sign, or where a comment begins
unfoldable pub join_in_signs : ℕ → ℕ → Bool
join_in_signs a b = stand_in a b (codes "//") || stand_in a b (codes "/*") || list_any (λ s. stand_in a b s.0) signs

-- a backslash, after a byte that may be a token's: continuations are a blank, unless they part what would be one token
unfoldable pub backslash : Bool → ℕ → Text → Piece
backslash glued last z =
    let n = continuations_from 0 0 z in
    let next = byte_at z n in
    if n == 0 then piece k.Stray 1
    else (if glued && (join_in_words last next || join_in_signs last next) then piece k.Joined n else blank n)

-- ---- fronts

-- a block comment is a blank if it ends
abbrev pub comment : Closing → Piece
comment closing = if closing.is_closed then blank closing.length else piece k.OpenComment closing.length

-- what stands at the front of a text, after the byte `last`, which may be a token's
unfoldable pub front : Bool → ℕ → Text → Piece
front glued last z =
    let b = byte_at z 0 in
    let next = byte_at z 1 in
    if b == 10 then feed
    else (if is_blank b then blank 1
    else (if is_digit b || b == 46 && is_digit next then number b (drop 1 z)
    else (if is_word b then word z
    else (if b == 34 then string 1 z
    else (if b == 39 then character 1 z
    else (if b == 47 && next == 47 then blank (line_from 2 0 (drop 2 z))
    else (if b == 47 && next == 42 then comment (block_from 2 false 0 (drop 2 z))
    else (if b == 92 then backslash glued last z
    else sign z))))))))
