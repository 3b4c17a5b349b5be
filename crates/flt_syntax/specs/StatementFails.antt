-- The faults of statements and blocks: beside each production a constructor for each place where it can fail. What stands before that
-- place is spelled by the grammar, and over where it can be longer or shorter.
use Rattle.std.specs.Prelude.{◌≡◌, ◌≢◌, ◌≤◌, ℕ, zero, suc, false, List}
use Rattle.flt_syntax.specs.ActionFails.{ActionFails, ConditionFails}
use Rattle.flt_syntax.specs.CallFails.{PlainFails, OptionalStatusFails}
use Rattle.flt_syntax.specs.FirstWords.{begins_other}
use Rattle.flt_syntax.specs.Over.{ConditionOver, StatementOver}
use Rattle.flt_syntax.specs.WordFails.{NextFails, NumberFails}
use Rattle.flt_syntax.specs.ActionGrammar.{ConditionAt}
use Rattle.flt_syntax.specs.Cursor.{Input, kind, fault_at}
use Rattle.flt_syntax.specs.Grammar.{StatementAt, BlockAt}
use Rattle.flt_syntax.specs.Scope.{Scope}
use Rattle.flt_syntax.specs.Words.{Next, NumberAt}
use Rattle.flt_syntax.specs.declared.fault.FaultKind.TheVariants.{E06}
use Rattle.flt_syntax.specs.declared.fault.SyntaxFault.{SyntaxFault}
use Rattle.flt_syntax.specs.declared.token.Kind.TheVariants as k
use Rattle.flt_rules.specs.Limits.{max_turns}
use Rattle.flt_tree.specs.declared.filter.Condition.{Condition}
use Rattle.flt_tree.specs.declared.filter.Statement.{Statement}

-- `StatementFails scope d r i f`: the tokens of i begin with no statement in which blocks nest at most d deep, and repeats at most
-- r; f is why, the first fault from left to right.
mutual
  pub data StatementFails (scope : Scope) : ℕ → ℕ → Input → SyntaxFault → Type 0 where
    act : {d r : ℕ} {i : Input} {f : SyntaxFault} → ActionFails i f → StatementFails scope d r i f
    -- plain, where no other statement begins
    call : {d r : ℕ} {i : Input} {f : SyntaxFault} → begins_other (kind i) ≡ false → PlainFails scope i f → StatementFails scope d r i f
    -- "return" [ status ]
    return : {d r : ℕ} {i a : Input} {f : SyntaxFault} → Next k.Return i a → OptionalStatusFails a f → StatementFails scope d r i f
    -- "if" cond block [ "else" block ]
    choice_test : {d r : ℕ} {i a : Input} {f : SyntaxFault} → Next k.If i a → ConditionFails scope a f → StatementFails scope d r i f
    choice_granted : {d r : ℕ} {i a b : Input} {c : Condition} {f : SyntaxFault} →
        Next k.If i a → (p : ConditionAt scope a c b) → ConditionOver p → BlockFails scope d r b f → StatementFails scope d r i f
    choice_refused : {d r : ℕ} {i a b l : Input} {c : Condition} {granted : List Statement} {f : SyntaxFault} →
        Next k.If i a → ConditionAt scope a c b → BlockAt scope d r b granted l → ElseFails scope d r l f → StatementFails scope d r i f
    -- "repeat" NUMBER block: one too many, at its word; more than 1000 turns, at the number
    repeat_nested : {d : ℕ} {i a : Input} → Next k.Repeat i a → StatementFails scope d zero i (fault_at E06 i)
    repeat_number : {d r : ℕ} {i a : Input} {f : SyntaxFault} →
        Next k.Repeat i a → NumberFails 0 max_turns a f → StatementFails scope d (suc r) i f
    repeat_body : {d r n : ℕ} {i a b : Input} {f : SyntaxFault} →
        Next k.Repeat i a → NumberAt a n b → n ≤ max_turns → BlockFails scope d r b f → StatementFails scope d (suc r) i f

  -- [ "else" block ]: without its word it can't fail
  pub data ElseFails (scope : Scope) : ℕ → ℕ → Input → SyntaxFault → Type 0 where
    behind : {d r : ℕ} {i j : Input} {f : SyntaxFault} → Next k.Else i j → BlockFails scope d r j f → ElseFails scope d r i f

  -- "{" { stmt } "}": a brace too deep is reported there; what stands in place of `}` begins no statement either
  pub data BlockFails (scope : Scope) : ℕ → ℕ → Input → SyntaxFault → Type 0 where
    no_brace : {d r : ℕ} {i : Input} {f : SyntaxFault} → NextFails k.OpenBrace i f → BlockFails scope d r i f
    too_deep : {r : ℕ} {i a : Input} → Next k.OpenBrace i a → BlockFails scope zero r i (fault_at E06 i)
    body : {d r : ℕ} {i a : Input} {f : SyntaxFault} → Next k.OpenBrace i a → StatementsFails scope d r a f → BlockFails scope (suc d) r i f

  -- { stmt } "}": statements, and then neither a statement nor `}`
  pub data StatementsFails (scope : Scope) : ℕ → ℕ → Input → SyntaxFault → Type 0 where
    here : {d r : ℕ} {i : Input} {f : SyntaxFault} → kind i ≢ k.CloseBrace → StatementFails scope d r i f → StatementsFails scope d r i f
    later : {d r : ℕ} {i j : Input} {s : Statement} {f : SyntaxFault} →
        (p : StatementAt scope d r i s j) → StatementOver p → StatementsFails scope d r j f → StatementsFails scope d r i f
