-- What the tokens of a function's body spell, and what is read of them.
use Rattle.std.specs.Prelude.{◌≡◌, ◌≤◌, ℕ, if◌then◌else◌, List, length, drop, nat_lt, Err}
use Rattle.flt_c_syntax.specs.Cursor.{Outcome, fault_at}
use Rattle.flt_c_syntax.specs.Statement.{function_body, max_depth}
use Rattle.flt_c_syntax.specs.StatementGrammar.{BodyAt}
use Rattle.flt_c_syntax.specs.Tokens.{Input}
use Rattle.flt_c_syntax.specs.declared.class.Class.{Class}
use Rattle.flt_c_syntax.specs.declared.fault.ReadError.{ReadError}
use Rattle.flt_c_syntax.specs.declared.fault.ReadError.TheVariants.{Syntax, OutOfMemory}
use Rattle.flt_c_syntax.specs.declared.fault.Reason.TheVariants as reasons
use Rattle.flt_c_syntax.specs.declared.tree.Statement.{Statement}

-- how many tokens a body may have, with the end behind it
abbrev pub max_tokens : ℕ
max_tokens = 65537

-- The tokens, up to the end, spell the statements of a body: a block by the grammar, of not too many tokens.
pub record Spells (known : List Class) (i : Input) (ss : List Statement) : Type 0 where
  pub grammar : BodyAt known max_depth i ss
  pub few : length i ≤ max_tokens

-- what is read of so many tokens: the statements, or the first fault
unfoldable pub bounded_body : List Class → ℕ → Input → Outcome (List Statement)
bounded_body known limit i = if nat_lt limit (length i) then Err (fault_at reasons.TooLong (drop limit i)) else function_body known i

-- what is read
abbrev pub body_of : List Class → Input → Outcome (List Statement)
body_of known i = bounded_body known max_tokens i

-- tokens spell at most one tree
abbrev pub SpellsAtMostOne : Type 0
SpellsAtMostOne = (known : List Class) (i : Input) (ss rs : List Statement) → Spells known i ss → Spells known i rs → ss ≡ rs

-- the fault of an outcome, unless memory runs out
abbrev pub IsFaultOf : {A : Type 0} → Outcome A → ReadError → Type 0
IsFaultOf outcome OutOfMemory = Unit {0}
IsFaultOf outcome (Syntax f) = outcome ≡ Err f
