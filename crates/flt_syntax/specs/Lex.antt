-- The tokens of a text. Each stands at a line and a column; only a line feed ends a line.
use Rattle.std.specs.Prelude.{◌≡◌, ℕ, zero, suc, ◌+◌, ◌-◌, ◌*◌, ◌^◌, ◌<◌, ◌≤◌, Bool, true, false, not, ◌&&◌, ◌||◌, if◌then◌else◌}
use Rattle.std.specs.Prelude.{◌==◌, nat_lt, List, [], ◌∷◌, length, take, slice_index, Option, Some, None}
use Rattle.std.specs.Char.{is_ascii_digit}
use Rattle.std.specs.List.{prefix_len}
use Rattle.std.specs.Str.{bytes_eq}
use Rattle.flt_tree.specs.Names.{Text, is_word}
use Rattle.flt_tree.specs.declared.filter.Position.{Position}
use Rattle.flt_syntax.specs.declared.lex.Line.{Line}
use Rattle.flt_syntax.specs.declared.token.Kind.{Kind}
use Rattle.flt_syntax.specs.declared.token.Kind.TheVariants as k
use Rattle.flt_syntax.specs.declared.token.Token.{Token}
use Rattle.flt_syntax.specs.declared.token.Word.{Word}
use Rattle.flt_syntax.specs.Vocabulary.{vocabulary}
use Rattle.flt_syntax.specs.contracts.token.Kind.{the_type}
use denote.Enum.Bare.{sameb}

-- ---- places

-- the place of the byte after the byte b, which stands at a place
abbrev pub past : ℕ → Position → Position
past b at = if b == 10 then record { line = at.line + 1; column = 1 } else record { line = at.line; column = at.column + 1 }

-- the end of a text stands one column after its last byte, even where that is a line feed
abbrev pub one_column_on : Position → Position
one_column_on at = record { line = at.line; column = at.column + 1 }

-- where a text ends, by how many bytes its last line has: behind the last of them, or at `end` where there are none
abbrev pub end_of : ℕ → ℕ → Position → Position
end_of line last end = if last == 0 then end else record { line = line; column = last + 1 }

-- ---- words and numbers

-- `==` on kinds
unfoldable pub same_kind : Kind → Kind → Bool
same_kind = sameb the_type

-- a word or symbol without a value
abbrev pub word : Kind → Word
word kind = record { kind = kind; value = 0 }

-- blanks are space, tab, line feed and carriage return
abbrev pub is_blank : ℕ → Bool
is_blank b = b == 32 || b == 9 || b == 10 || b == 13

-- the kind that a table has for a word, else a name
abbrev pub lookup : List (Text × Kind) → Text → Kind
lookup [] name = k.Name
lookup (entry ∷ entries) name = if bytes_eq name entry.0 then entry.1 else lookup entries name

-- a word of the language or a name, which has at most 64 bytes
unfoldable pub keyword : Text → Word
keyword name = word (if nat_lt 64 (length name) then k.Malformed else lookup vocabulary name)

-- the number that goes on from n, if there are only digits and it is below 2^64
abbrev pub value_from : ℕ → Text → Option ℕ
value_from n [] = Some n
value_from n (b ∷ z) =
    if is_ascii_digit b && nat_lt (10 * n + (b - 48)) (2 ^ 64) then value_from (10 * n + (b - 48)) z else None

-- a number, or what is none
abbrev pub number_by : Option ℕ → Word
number_by None = word k.Malformed
number_by (Some n) = record { kind = k.Number; value = n }

-- a number has no leading zeros
unfoldable pub number : Text → Word
number digits = if slice_index digits 0 == 48 && nat_lt 1 (length digits) then word k.Malformed else number_by (value_from 0 digits)

-- a letter and a byte of words spell a word of the language
abbrev pub IsVariable : ℕ → ℕ → Kind → Type 0
IsVariable letter b kind =
    (is_ascii_digit letter ≡ false) × ((is_word letter && is_word b) ≡ true) × (lookup vocabulary (letter ∷ (b ∷ [])) ≡ kind)

-- the run of letters, digits and `_` at the front of a text, and its length: what begins with a digit is a number
unfoldable pub run : Text → Word × ℕ
run z = let end = prefix_len is_word z in (if is_ascii_digit (slice_index z 0) then number (take end z) else keyword (take end z), end)

-- ---- tokens

-- the first kind where `=` is the second byte, else the other
unfoldable pub pair_or : Kind → Kind → Text → Word × ℕ
pair_or pair alone z = if nat_lt 1 (length z) && slice_index z 1 == 61 then (word pair, 2) else (word alone, 1)

-- the token at the front of a text that begins with no blank or comment, and its length
unfoldable pub token : Text → Word × ℕ
token z =
    let b = slice_index z 0 in
    if b == 123 then (word k.OpenBrace, 1) else (if b == 125 then (word k.CloseBrace, 1)
    else (if b == 60 then (word k.Less, 1) else (if b == 43 then (word k.Plus, 1) else (if b == 45 then (word k.Minus, 1)
    else (if b == 61 then pair_or k.Equal k.Assign z else (if b == 33 then pair_or k.NotEqual k.Stray z
    else (if is_word b then run z else (word k.Stray, 1))))))))

-- what follows the spaces at the front of a text
abbrev pub after_spaces : Text → Text
after_spaces [] = []
after_spaces (b ∷ z) = if b == 32 then after_spaces z else b ∷ z

-- what follows a comment: its line feed, or nothing at the end of the text
abbrev pub after_comment : Text → Text
after_comment [] = []
after_comment (b ∷ z) = if b == 10 then b ∷ z else after_comment z

-- what is no token, at which reading ends
abbrev pub is_fault : Kind → Bool
is_fault k.Stray = true
is_fault k.Malformed = true
is_fault _ = false

-- what is left of a text stands in a line of it
abbrev pub StandsIn : Line → Text → Type 0
StandsIn line z = (length z ≤ line.from) × ((line.from ≤ line.total) × (line.total < 2 ^ 32))

-- the token of a word and its length at the front of what is left, in a line of a text
abbrev pub token_of : Line → Text → Word × ℕ → Token
token_of line z t =
    let start = line.total - length z in
    record { word = t.0; position = record { line = line.number; column = line.from - length z + 1 }; start = start; end = start + t.1 }

-- how far a word leads, by its length: nowhere if it is no token
abbrev pub step_of : Word × ℕ → ℕ
step_of t = if is_fault t.0.kind then 0 else t.1

-- a word has a byte and no more than there are
abbrev pub IsWithin : Text → Word × ℕ → Type 0
IsWithin z t = (1 ≤ t.1) × (t.1 ≤ length z)

-- The tokens of the text after `last`, which stands at a place. The first number counts the bytes that are left of a
-- token, the other the bytes before. A comment ends before its line feed. After a fault nothing is read.
abbrev pub tokens_from : ℕ → Bool → ℕ → Position → ℕ → Text → List Token
tokens_from left comment last at offset [] =
    record { word = word k.End; position = one_column_on at; start = offset; end = offset } ∷ []
tokens_from (suc left) comment last at offset (b ∷ z) = tokens_from left comment b (past last at) (offset + 1) z
tokens_from zero true last at offset (b ∷ z) = tokens_from zero (not (b == 10)) b (past last at) (offset + 1) z
tokens_from zero false last at offset (b ∷ z) =
    if b == 35 then tokens_from zero true b (past last at) (offset + 1) z
    else (if is_blank b then tokens_from zero false b (past last at) (offset + 1) z
    else (let t = token (b ∷ z) in
    record { word = t.0; position = past last at; start = offset; end = offset + t.1 } ∷
    (if is_fault t.0.kind then [] else tokens_from (t.1 - 1) false b (past last at) (offset + 1) z)))

-- Before the first byte a text stands at column 0 of line 1.
unfoldable pub tokens : Text → List Token
tokens z = tokens_from zero false 0 (record { line = 1; column = 0 }) 0 z
