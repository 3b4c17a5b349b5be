-- How statements and blocks are read.
use Rattle.std.specs.Prelude.{ℕ, zero, suc, ◌-◌, if◌then◌else◌, ◌==◌, List, [], ◌∷◌, ◌++◌, length, Ok, Err}
use Rattle.flt_syntax.specs.Action.{simple_statement}
use Rattle.flt_syntax.specs.Condition.{condition}
use Rattle.flt_syntax.specs.Cursor.{Parser, ◌>>=◌, ◌>>◌, pure, place, here, span, refuse, fail}
use Rattle.flt_syntax.specs.Cursor.{peek, take_token, sees, eat, expect, number_within, too_deep}
use Rattle.flt_syntax.specs.Scope.{Scope}
use Rattle.flt_syntax.specs.declared.fault.FaultKind.TheVariants.{E06}
use Rattle.flt_tree.specs.declared.filter.Statement.{Statement}
use Rattle.flt_tree.specs.declared.filter.Statement.TheVariants.{If, Repeat}
use Rattle.flt_syntax.specs.declared.token.Kind.{Kind}
use Rattle.flt_syntax.specs.declared.token.Kind.TheVariants as k
pub use Rattle.flt_rules.specs.Limits.{max_turns}

-- `inner` reads the blocks inside, given how many repeats may stand in one another there.
module _ (scope : Scope) (inner : ℕ → Parser (List Statement)) where
  -- [ "else" block ]
  unfoldable pub otherwise : ℕ → Parser (List Statement)
  otherwise repeats = do
    found ← eat k.Else
    if found then inner repeats else pure []

  -- "if" cond block [ "else" block ]
  unfoldable pub choice : ℕ → Parser Statement
  choice repeats = do
    at ← place
    take_token
    from ← here
    c ← condition scope
    to ← here
    granted ← inner repeats
    refused ← otherwise repeats
    pure (If (record (span from to) { line = at.line }) c granted refused)

  -- "repeat" NUMBER block; one that stands in too many is a limit passed, at its word
  unfoldable pub repetition : ℕ → Parser Statement
  repetition repeats = if repeats == 0 then fail E06 else (do
    from ← here
    take_token
    turns ← number_within 0 max_turns
    to ← here
    body ← inner (repeats - 1)
    pure (Repeat (span from to) turns body))

  -- stmt, by its first word
  abbrev pub statement_by : ℕ → Kind → Parser Statement
  statement_by repeats k.If = choice repeats
  statement_by repeats k.Repeat = repetition repeats
  statement_by repeats _ = simple_statement scope

  -- stmt
  unfoldable pub statement : ℕ → Parser Statement
  statement repeats = peek >>= statement_by repeats

  -- { stmt } after those that were found; the number bounds the turns
  unfoldable pub statements_from : ℕ → ℕ → List Statement → Parser (List Statement)
  statements_from zero repeats found = refuse
  statements_from (suc n) repeats found = λ i.
      if sees k.CloseBrace i then Ok (found, i) else (do s ← statement repeats; statements_from n repeats (found ++ s ∷ [])) i

  -- { stmt } up to the closing brace, which stays. Each takes a token, so there are turns enough.
  unfoldable pub statements : ℕ → Parser (List Statement)
  statements repeats = λ i. statements_from (length i) repeats [] i

  -- "{" { stmt } "}"
  abbrev pub braced : ℕ → Parser (List Statement)
  braced repeats = do
    expect k.OpenBrace
    body ← statements repeats
    expect k.CloseBrace
    pure body

-- a block in which blocks nest no deeper than the first number, itself counted, and repeats than the second
unfoldable pub block : Scope → ℕ → ℕ → Parser (List Statement)
block scope zero repeats = λ i. Err (too_deep i)
block scope (suc depth) repeats = braced scope (block scope depth) repeats
