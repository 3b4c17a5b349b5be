-- Types: words and stars. Without the types of names, what stands in brackets is taken for a type by how it looks and by what follows.
use Rattle.std.specs.Prelude.{◌≡◌, ℕ, suc, Bool, true, false, not, ◌&&◌, ◌||◌, if◌then◌else◌, List, [], ◌∷◌, is_some}
use Rattle.flt_c_tokens.specs.declared.token.Kind.{Kind}
use Rattle.flt_c_tokens.specs.declared.token.Kind.TheVariants as k
use Rattle.flt_c_tokens.specs.declared.token.Token.{Token}
use Rattle.flt_c_syntax.specs.Operators.{prefix_of, begins_operand, is_either_sign}
use Rattle.flt_c_syntax.specs.Tokens.{Input, kind, next, sees, same_kind, is_type_part, run, behind, words, class_of}
use Rattle.flt_c_syntax.specs.declared.class.Class.{Class}
use Rattle.flt_c_syntax.specs.declared.class.Class.TheVariants as classes
use Rattle.flt_c_syntax.specs.declared.class.Part.TheVariants as parts
use Rattle.flt_c_syntax.specs.declared.tree.TypeName.{TypeName}

-- how many stars there are among tokens
abbrev pub stars : Input → ℕ
stars [] = 0
stars (t ∷ i) = if sees k.Star (t ∷ i) then suc (stars i) else stars i

-- what is left behind words and stars
abbrev pub behind_type : Input → Input
behind_type i = behind parts.Star (behind parts.Type i)

-- words and stars
abbrev pub type_of : Input → TypeName
type_of i = record { words = words (run parts.Type i); stars = stars (run parts.Star (behind parts.Type i)) }

-- a type: words, at least one, and stars
pub data TypeAt : Input → TypeName → Input → Type 0 where
  type : {i : Input} → is_type_part (kind i) ≡ true → TypeAt i (type_of i) (behind_type i)

-- ---- what looks like a type

-- a word that nothing but a type has, as `struct` and `unsigned`
abbrev pub is_type_word : Kind → Bool
is_type_word k.TypeWord = true
is_type_word k.Qualifier = true
is_type_word k.Struct = true
is_type_word _ = false

-- words and stars that are a type whatever their names stand for: they begin with such a word, are two words, or have a star
abbrev pub is_surely_type : Input → Bool
is_surely_type i =
    is_type_word (kind i) || (is_type_part (kind i) && (is_type_part (kind (next i)) || sees k.Star (behind parts.Type i)))

-- the class of the next token, if that is a name
abbrev pub class_at_by : List Class → Token → Kind → Class
class_at_by known t k.Name = class_of known t.word
class_at_by known t _ = classes.Plain

abbrev pub class_at : List Class → Input → Class
class_at known [] = classes.Plain
class_at known (t ∷ i) = class_at_by known t t.kind

abbrev pub is_type_class : Class → Bool
is_type_class classes.Type = true
is_type_class _ = false

abbrev pub is_capital_class : Class → Bool
is_capital_class classes.Capital = true
is_capital_class _ = false

-- words and stars up to a closing bracket
abbrev pub is_group : Input → Bool
is_group i = is_type_part (kind i) && sees k.CloseParen (behind_type i)

-- what stands behind the bracket
abbrev pub behind_group : Input → Input
behind_group i = next (behind_type i)

-- what an operand begins with behind the bracket of a type: of a name in capitals alone what can't go on with an expression, and of
-- another name what isn't a call's bracket, either
abbrev pub follows_type : Class → Kind → Bool
follows_type classes.Type kind = begins_operand kind || is_either_sign kind
follows_type classes.Capital kind = begins_operand kind
follows_type classes.Plain kind = begins_operand kind && not (same_kind kind k.OpenParen)

-- `(T) x`: what stands behind the opening bracket is a type and a closing one, and an operand follows
unfoldable pub is_cast : List Class → Input → Bool
is_cast known i =
    is_group i && follows_type (if is_surely_type i then classes.Type else class_at known i) (kind (behind_group i))

-- `(T){ .. }`
unfoldable pub is_literal : Input → Bool
is_literal i = is_group i && sees k.OpenBrace (behind_group i)

-- `sizeof(T)`: what stands behind the opening bracket
unfoldable pub is_measured_type : List Class → Input → Bool
is_measured_type known i =
    is_group i && (is_surely_type i || is_type_class (class_at known i) || is_capital_class (class_at known i))

-- `f(T)`, `f(T, ..`: what stands behind the bracket or a comma
unfoldable pub is_type_argument : Input → Bool
is_type_argument i = is_surely_type i && (sees k.CloseParen (behind_type i) || sees k.Comma (behind_type i))

-- ---- what begins with a text or a prefix

-- a string, or a name before one
abbrev pub begins_text : Input → Bool
begins_text i = if sees k.Name i then sees k.Text (next i) else sees k.Text i

-- whether a prefix stands before a token of the kind and those behind it
abbrev pub begins_prefix_by : List Class → Kind → Input → Bool
begins_prefix_by known k.OpenParen i = is_cast known i
begins_prefix_by known k.Sizeof i = not (sees k.OpenParen i) || not (is_measured_type known (next i))
begins_prefix_by known kind i = is_some (prefix_of kind)

unfoldable pub begins_prefix : List Class → Input → Bool
begins_prefix known i = begins_prefix_by known (kind i) (next i)
