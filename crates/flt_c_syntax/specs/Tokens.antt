-- What is left to read, tokens of a kind, and classes of words.
use Rattle.std.specs.Prelude.{ℕ, Bool, true, false, if◌then◌else◌, List, [], ◌∷◌, map, Option, Some, None, slice_get}
use denote.Enum.Bare.{sameb}
use Rattle.flt_c_tokens.specs.contracts.token.Kind.{the_type}
use Rattle.flt_c_tokens.specs.declared.token.Kind.{Kind}
use Rattle.flt_c_tokens.specs.declared.token.Kind.TheVariants as k
use Rattle.flt_c_tokens.specs.declared.token.Token.{Token}
use Rattle.flt_c_syntax.specs.declared.class.Class.{Class}
use Rattle.flt_c_syntax.specs.declared.class.Class.TheVariants as classes
use Rattle.flt_c_syntax.specs.declared.class.Part.{Part}
use Rattle.flt_c_syntax.specs.declared.class.Part.TheVariants as parts
use Rattle.flt_c_syntax.specs.declared.tree.Place.{Place}

-- what is left to read
abbrev pub Input : Type 0
Input = List Token

-- the next token; past the last one, an end that stands nowhere
abbrev pub front : Input → Token
front [] = record { kind = k.End; is_glued = false; word = 0; start = 0; line = 0; column = 0 }
front (t ∷ i) = t

-- the kind of the next token
abbrev pub kind : Input → Kind
kind i = (front i).kind

-- the place of a token
abbrev pub place_of : Token → Place
place_of t = record { line = t.line; column = t.column }

-- where the next token stands
abbrev pub place : Input → Place
place i = place_of (front i)

-- what is left behind the next token
abbrev pub next : Input → Input
next [] = []
next (t ∷ i) = i

-- `==` on kinds
unfoldable pub same_kind : Kind → Kind → Bool
same_kind = sameb the_type

-- whether the next token is of the kind
abbrev pub sees : Kind → Input → Bool
sees k i = same_kind (kind i) k

-- ---- runs of tokens

-- what may stand before the stars of a type; among them; in a row of strings
abbrev pub is_type_part : Kind → Bool
is_type_part k.Name = true
is_type_part k.TypeWord = true
is_type_part k.Qualifier = true
is_type_part k.Struct = true
is_type_part _ = false

abbrev pub is_star_part : Kind → Bool
is_star_part k.Star = true
is_star_part k.Qualifier = true
is_star_part _ = false

abbrev pub is_text_part : Kind → Bool
is_text_part k.Text = true
is_text_part k.Name = true
is_text_part _ = false

abbrev pub is_part : Part → Kind → Bool
is_part parts.Type kind = is_type_part kind
is_part parts.Star kind = is_star_part kind
is_part parts.Text kind = is_text_part kind

-- the longest front of such tokens
abbrev pub run : Part → Input → Input
run part [] = []
run part (t ∷ i) = if is_part part t.kind then t ∷ run part i else []

-- what is left behind it
abbrev pub behind : Part → Input → Input
behind part [] = []
behind part (t ∷ i) = if is_part part t.kind then behind part i else t ∷ i

-- the words of tokens
abbrev pub words : Input → List ℕ
words = map (λ t. t.word)

-- ---- classes of words

-- the class of a word; one that the list lacks is plain
abbrev pub class_or : Option Class → Class
class_or None = classes.Plain
class_or (Some c) = c

abbrev pub class_of : List Class → ℕ → Class
class_of known word = class_or (slice_get known word)
