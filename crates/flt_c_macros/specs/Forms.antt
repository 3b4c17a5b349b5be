-- The conditions that open and part groups: what they count, and how they are spelled.
use Rattle.std.specs.Prelude.{ℕ, Bool, true, false, if◌then◌else◌, List, [], ◌∷◌, ◌++◌, Option, Some, None, codes}
use Rattle.flt_c_tokens.specs.Bytes.{Text}
use Rattle.flt_c_macros.specs.Texts.{Texts}
use Rattle.flt_c_tokens.specs.declared.token.Kind.TheVariants as k
use Rattle.flt_c_tokens.specs.declared.token.Token.{Token}
use Rattle.flt_c_macros.specs.declared.form.Form.{Form}
use Rattle.flt_c_macros.specs.declared.form.Form.TheVariants.{Plain, Defined, NotDefined, Otherwise}
use Rattle.flt_c_macros.specs.Conditions.{condition, is_defined}
use Rattle.flt_c_macros.specs.Kinds.{same_kind, spelling}
use Rattle.flt_c_macros.specs.Macros.{Known}
use Rattle.flt_c_macros.specs.Values.{Value, negation, truth}

-- ---- what they count

-- a line that isn't one name is unknown
abbrev pub line_is_defined : Known → List Token → Value
line_is_defined macros [] = None
line_is_defined macros (t ∷ []) = if same_kind t.kind k.Name then is_defined macros t.word else None
line_is_defined macros (t ∷ u ∷ i) = None

abbrev pub value_of : Texts → Known → Form → List Token → Value
value_of texts macros Plain line = condition texts macros line
value_of texts macros Defined line = line_is_defined macros line
value_of texts macros NotDefined line = negation (line_is_defined macros line)
value_of texts macros Otherwise line = truth true

-- ---- how they are spelled

-- `#ifdef NAME` is `#if defined NAME`
abbrev pub front_of : Form → Text
front_of Plain = []
front_of Defined = codes "defined"
front_of NotDefined = codes "! defined"
front_of Otherwise = []

-- a spelling behind a text, and a blank between them
abbrev pub added : Text → Text → Text
added [] more = more
added (b ∷ z) more = (b ∷ z) ++ 32 ∷ [] ++ more

-- the spellings of tokens behind a text
abbrev pub joined : Texts → Text → List Token → Text
joined texts text [] = text
joined texts text (t ∷ i) = joined texts (added text (spelling texts t)) i

-- the spelling of a condition
unfoldable pub spelled : Texts → Form → List Token → Text
spelled texts form line = joined texts (front_of form) line
