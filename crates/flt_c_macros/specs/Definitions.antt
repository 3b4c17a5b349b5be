-- Lines that define macros, and lines that take them back.
use Rattle.std.specs.Prelude.{◌≡◌, ◌&&◌, ℕ, nat_lt, Bool, true, false, if◌then◌else◌, List, [], ◌∷◌, ◌++◌, length, Option, Some, None}
use Rattle.std.specs.Prelude.{codes}
use Rattle.flt_c_tokens.specs.declared.token.Kind.{Kind}
use Rattle.flt_c_tokens.specs.declared.token.Kind.TheVariants as k
use Rattle.flt_c_tokens.specs.declared.token.Token.{Token}
use Rattle.flt_c_tokens.specs.Spelled.{has_text, number_of}
use Rattle.flt_c_macros.specs.declared.define.Head.{Head}
use Rattle.flt_c_macros.specs.declared.macros.Macro.{Macro}
use Rattle.flt_c_macros.specs.declared.macros.Macro.TheVariants.{Undefined, Plain, WithParameters, Undecided}
use Rattle.flt_c_macros.specs.declared.note.NoteKind.TheVariants.{Malformed, Keyword}
use Rattle.flt_c_macros.specs.declared.state.State.{State}
use Rattle.flt_c_macros.specs.Groups.{is_certain}
use Rattle.flt_c_macros.specs.Kinds.{same_kind}
use Rattle.flt_c_macros.specs.Macros.{with_macro}
use Rattle.flt_c_macros.specs.States.{noted}
use Rattle.flt_c_macros.specs.Texts.{Texts}

-- ---- the parts of a line

-- the words that the grammar of C names: no macro has such a name
abbrev pub is_keyword : Kind → Bool
is_keyword k.If = true
is_keyword k.Else = true
is_keyword k.While = true
is_keyword k.Do = true
is_keyword k.For = true
is_keyword k.Switch = true
is_keyword k.Case = true
is_keyword k.Default = true
is_keyword k.Goto = true
is_keyword k.Return = true
is_keyword k.Break = true
is_keyword k.Continue = true
is_keyword k.Sizeof = true
is_keyword k.Typedef = true
is_keyword k.Struct = true
is_keyword k.TypeWord = true
is_keyword k.Qualifier = true
is_keyword k.Try = true
is_keyword k.Finally = true
is_keyword k.Except = true
is_keyword k.Leave = true
is_keyword k.Attribute = true
is_keyword k.Assembler = true
is_keyword k.Cast = true
is_keyword k.CPlusPlus = true
is_keyword _ = false

-- parameters, the last of them again if it stands for `...`, and the body
abbrev pub Parts : Type 0
Parts = List ℕ × Option ℕ × List Token

-- ")" body, behind the "..." for which a name stands
abbrev pub with_rest : ℕ → List ℕ → List Token → Option Parts
with_rest rest found [] = None
with_rest rest found (t ∷ i) = if same_kind t.kind k.CloseParen then Some (found ++ rest ∷ [], Some rest, i) else None

abbrev mutual
  -- NAME behind_parameter | "..." ")" body
  pub parameter : ℕ → List ℕ → List Token → Option Parts
  parameter rest found [] = None
  parameter rest found (t ∷ i) =
      if same_kind t.kind k.Ellipsis then with_rest rest found i
      else (if same_kind t.kind k.Name then behind_parameter rest found t.word i else None)

  -- "..." ")" body | ")" body | "," parameter; a name before "..." stands for it, as GNU C has it
  pub behind_parameter : ℕ → List ℕ → ℕ → List Token → Option Parts
  behind_parameter rest found name [] = None
  behind_parameter rest found name (t ∷ i) =
      if same_kind t.kind k.Ellipsis then with_rest name found i
      else (if same_kind t.kind k.CloseParen then Some (found ++ name ∷ [], None, i)
      else (if same_kind t.kind k.Comma then parameter rest (found ++ name ∷ []) i else None))

-- ")" body | parameter
abbrev pub parameters : ℕ → List Token → Option Parts
parameters rest [] = None
parameters rest (t ∷ i) = if same_kind t.kind k.CloseParen then Some ([], None, i) else parameter rest [] (t ∷ i)

-- the code's head of a macro
abbrev pub IsHead : Option Parts → Option Head → Type 0
IsHead parts None = parts ≡ None
IsHead parts (Some head) = parts ≡ Some (head.parameters, head.rest, head.body.now)

-- The name by which a body has the arguments behind the named ones, if none stands before `...`: the number of `__VA_ARGS__`. If it has
-- none, no body has the name: then it is 0, the number of a word of C.
abbrev pub rest_name : Texts → ℕ
rest_name texts = let name = codes "__VA_ARGS__" in if has_text texts name then number_of texts name else 0

-- no more parameters are taken than the C standard wants, with that for `...`
abbrev pub macro_with : Parts → Option Macro
macro_with parts = if nat_lt 127 (length parts.0) then None else Some (WithParameters parts.0 parts.1 parts.2)

abbrev pub macro_by : Option Parts → Option Macro
macro_by None = None
macro_by (Some parts) = macro_with parts

-- what stands behind a macro's name: a bracket that touches the name opens its parameters
abbrev pub macro_from : Texts → List Token → Option Macro
macro_from texts [] = Some (Plain [])
macro_from texts (t ∷ i) =
    if t.is_glued && same_kind t.kind k.OpenParen then macro_by (parameters (rest_name texts) i) else Some (Plain (t ∷ i))

-- ---- the lines

-- A name's definition. In a branch that isn't decided a line makes nothing known of its name, from there on and in the branch, too: so what
-- is known is true whichever branches are taken.
abbrev pub settled : ℕ → Macro → State → State
settled name what s = record s { macros = with_macro s.macros name (if is_certain s.groups then what else Undecided) }

abbrev pub defined_by : ℕ → Option Macro → Token → State → State
defined_by name None at s = noted Malformed at s
defined_by name (Some what) at s = settled name what s

-- a line whose first word is no name
abbrev pub not_defined : Kind → Token → State → State
not_defined kind at s = if is_keyword kind then noted Keyword at s else noted Malformed at s

-- #define
abbrev pub defined : Texts → Token → List Token → State → State
defined texts at [] s = noted Malformed at s
defined texts at (t ∷ i) s = if same_kind t.kind k.Name then defined_by t.word (macro_from texts i) at s else not_defined t.kind at s

-- #undef
abbrev pub undefined : Token → List Token → State → State
undefined at [] s = noted Malformed at s
undefined at (t ∷ []) s = if same_kind t.kind k.Name then settled t.word Undefined s else not_defined t.kind at s
undefined at (t ∷ u ∷ i) s = noted Malformed at s
