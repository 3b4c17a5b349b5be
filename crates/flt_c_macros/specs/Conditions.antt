-- The conditions of `#if` and `#elif`.
use Rattle.std.specs.Prelude.{◌≡◌, ◌&&◌, ℕ, zero, suc, Bool, true, false, if◌then◌else◌, List, [], ◌∷◌, length, Option, Some, None, codes}
use Rattle.std.specs.Str.{bytes_eq}
use Rattle.flt_c_macros.specs.Texts.{Texts, text_of}
use Rattle.flt_c_tokens.specs.declared.token.Kind.{Kind}
use Rattle.flt_c_tokens.specs.declared.token.Kind.TheVariants as k
use Rattle.flt_c_tokens.specs.declared.token.Token.{Token}
use Rattle.flt_c_macros.specs.declared.macros.Macro.{Macro}
use Rattle.flt_c_macros.specs.declared.macros.Macro.TheVariants.{Undefined, Plain, WithParameters, Undecided}
use Rattle.flt_c_macros.specs.declared.value.Operator.{Operator}
use Rattle.flt_c_macros.specs.Kinds.{same_kind}
use Rattle.flt_c_macros.specs.Macros.{Known, macro_of}
use Rattle.flt_c_macros.specs.Numbers.{number}
use Rattle.flt_c_macros.specs.Values.{Value, truth, negation, applied, operator_of}

-- ---- names

abbrev pub is_defined_by : Option Macro → Value
is_defined_by None = None
is_defined_by (Some Undecided) = None
is_defined_by (Some Undefined) = truth false
is_defined_by (Some (Plain body)) = truth true
is_defined_by (Some (WithParameters parameters is_open body)) = truth true

-- whether a name is defined, if that is known
abbrev pub is_defined : Known → ℕ → Value
is_defined macros name = is_defined_by (macro_of macros name)

module _ (texts : Texts) (macros : Known) where
  -- a macro of no parameters whose body is a number, or a name again; what is no macro is 0
  abbrev pub named_by : (ℕ → Value) → Option Macro → Value
  named_by again (Some Undefined) = Some 0
  named_by again (Some (Plain (t ∷ []))) =
      if same_kind t.kind k.Number then number (text_of texts t.word) else (if same_kind t.kind k.Name then again t.word else None)
  named_by again _ = None

  -- what a name counts, at so many names behind each other
  unfoldable pub named : ℕ → ℕ → Value
  named zero name = None
  named (suc depth) name = named_by (named depth) (macro_of macros name)

-- ---- reading a line

-- what is left of the line
abbrev pub Line : Type 0
Line = List Token

-- what was read, and what is left; none where a line is no condition
abbrev pub Outcome : Type 0 → Type 0
Outcome A = Option (A × Line)

abbrev pub Reader : Type 0 → Type 0
Reader A = Line → Outcome A

abbrev pub and_then : {A B : Type 0} → Outcome A → (A × Line → Outcome B) → Outcome B
and_then (Some x) f = f x
and_then None f = None

-- a function of the code reads what a reader reads
abbrev pub Reads : {A : Type 0} → Outcome A → Option A → Line → Type 0
Reads outcome (Some a) left = outcome ≡ Some (a, left)
Reads outcome None left = outcome ≡ None

-- whether a token of the kind is next
abbrev pub sees : Kind → Line → Bool
sees kind [] = false
sees kind (t ∷ i) = same_kind t.kind kind

-- what is left behind the next token
abbrev pub next : Line → Line
next [] = []
next (t ∷ i) = i

-- a token of the kind
unfoldable pub expect : Kind → Reader (Unit {0})
expect kind i = if sees kind i then Some (tt, next i) else None

-- the number of the next token's spelling
abbrev pub word : Line → ℕ
word [] = 0
word (t ∷ i) = t.word

-- a name
unfoldable pub name : Reader ℕ
name i = if sees k.Name i then Some (word i, next i) else None

-- the operator of the rank that is next
unfoldable pub sign : ℕ → Line → Option Operator
sign rank [] = None
sign rank (t ∷ i) = operator_of rank t.kind

-- the word `defined` is next
abbrev pub sees_defined : Texts → Line → Bool
sees_defined texts i = sees k.Name i && bytes_eq (text_of texts (word i)) (codes "defined")

-- NAME | "(" NAME ")"
unfoldable pub asked : Reader ℕ
asked i = if sees k.OpenParen i then and_then (name (next i)) (λ n. and_then (expect k.CloseParen n.1) (λ q. Some (n.0, q.1))) else name i

module _ (texts : Texts) (macros : Known) where
  -- NUMBER | "defined" asked | NAME
  unfoldable pub simple : Reader Value
  simple i =
      if sees k.Number i then Some (number (text_of texts (word i)), next i)
      else (if sees_defined texts i then and_then (asked (next i)) (λ n. Some (is_defined macros n.0, n.1))
      else and_then (name i) (λ n. Some (named texts macros 16 n.0, n.1)))

-- a side, and what follows its operator
abbrev pub more_by : Reader Value → (Value → Reader Value) → Value → Line → Option Operator → Outcome Value
more_by part again left i None = Some (left, i)
more_by part again left i (Some o) = and_then (part (next i)) (λ q. again (applied o left q.0) q.1)

-- { OPERATOR part }, behind a left side, in so many turns at most
unfoldable pub more : Reader Value → ℕ → ℕ → Value → Reader Value
more part rank zero left i = Some (left, i)
more part rank (suc turns) left i = more_by part (more part rank turns) left i (sign rank i)

-- operands with operators between them that bind as closely as those below a rank, or closer
unfoldable pub ranked : Reader Value → ℕ → Reader Value
ranked operand zero i = operand i
ranked operand (suc rank) i = and_then (ranked operand rank i) (λ q. more (ranked operand rank) rank (length q.1) q.0 q.1)

module _ (texts : Texts) (macros : Known) where
  -- "!" operand | "(" condition ")" | simple, at so many operands within each other
  unfoldable pub operand : ℕ → Reader Value
  operand zero i = None
  operand (suc depth) i =
      if sees k.Exclamation i then and_then (operand depth (next i)) (λ q. Some (negation q.0, q.1))
      else (if sees k.OpenParen i
      then and_then (ranked (operand depth) 4 (next i)) (λ q. and_then (expect k.CloseParen q.1) (λ e. Some (q.0, e.1)))
      else simple texts macros i)

  abbrev pub whole : Outcome Value → Value
  whole (Some (value, [])) = value
  whole (Some (value, t ∷ i)) = None
  whole None = None

  -- what a condition counts, with all four ranks of operators
  unfoldable pub condition : Line → Value
  condition line = whole (ranked (operand 64) 4 line)
