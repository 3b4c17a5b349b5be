-- Where what is spelled is over: the next token doesn't go on with it. Only an optional part at the end can go on, where it was left
-- out; so the one question is whether the next token is the first of that part.
use Rattle.std.specs.Prelude.{◌≡◌, ◌≢◌, ℕ, false, List, Option}
use Rattle.flt_syntax.specs.ActionGrammar as acting
use Rattle.flt_syntax.specs.ActionGrammar.{ExpressionAt, ActionAt, ConditionAt}
use Rattle.flt_syntax.specs.CallGrammar as calling
use Rattle.flt_syntax.specs.CallGrammar.{StatusAt, OptionalStatusAt, TailAt, FallibleAt, PlainAt}
use Rattle.flt_syntax.specs.Cursor.{Input, kind}
use Rattle.flt_syntax.specs.Grammar as grammar
use Rattle.flt_syntax.specs.Grammar.{StatementAt, ElseAt, QueueAt}
use Rattle.flt_syntax.specs.Scope.{Scope}
use Rattle.flt_syntax.specs.FirstWords.{begins_status}
use Rattle.flt_syntax.specs.Words as words
use Rattle.flt_syntax.specs.Words.{OptionalAt}
use Rattle.flt_tree.specs.declared.filter.Action.{Action}
use Rattle.flt_tree.specs.declared.filter.Condition.{Condition}
use Rattle.flt_tree.specs.declared.filter.FallibleCall.{FallibleCall}
use Rattle.flt_tree.specs.declared.filter.PlainCall.{PlainCall}
use Rattle.flt_tree.specs.declared.filter.Position.{Position}
use Rattle.flt_tree.specs.declared.filter.Routine.{Routine}
use Rattle.flt_tree.specs.declared.filter.Statement.{Statement}
use Rattle.flt_tree.specs.declared.filter.Status.{Status}
use Rattle.flt_tree.specs.declared.variable.ContextVariable.{ContextVariable}
use Rattle.flt_tree.specs.declared.variable.Expression.{Expression}
use Rattle.flt_syntax.specs.declared.shape.Operands.{Operands}
use Rattle.flt_syntax.specs.declared.shape.Tail.{Tail}
use Rattle.flt_syntax.specs.declared.token.Kind.{Kind}
use Rattle.flt_syntax.specs.declared.token.Kind.TheVariants as k

-- [ "context" C ], [ "old" C ]
abbrev pub OptionalOver : {word : Kind} {i o : Input} {c : Option ContextVariable} → OptionalAt word i c o → Type 0
OptionalOver {word = word} (words.without {i = i}) = kind i ≢ word
OptionalOver (words.behind n p) = Unit {0}

-- status
abbrev pub StatusOver : {i o : Input} {s : Status} → StatusAt i s o → Type 0
StatusOver (calling.with_callback n p) = OptionalOver p
StatusOver (calling.synchronize n p) = OptionalOver p
StatusOver _ = Unit {0}

-- [ status ]
abbrev pub OptionalStatusOver : {i o : Input} {s : Option Status} → OptionalStatusAt i s o → Type 0
OptionalStatusOver (calling.no_status {i = i}) = begins_status (kind i) ≡ false
OptionalStatusOver (calling.some_status p) = StatusOver p

-- what ends a call
abbrev pub TailOver : {t : Tail} {x y : Operands} {i o : Input} → TailAt t x i y o → Type 0
TailOver calling.nothing = Unit {0}
TailOver (calling.with_context p) = OptionalOver p
TailOver (calling.old p) = OptionalOver p
TailOver (calling.other_old p h) = OptionalOver p
TailOver (calling.status p) = StatusOver p

-- fallible
abbrev pub FallibleOver : {scope : Scope} {i o : Input} {c : FallibleCall Routine} → FallibleAt scope i c o → Type 0
FallibleOver (calling.fallible n q p t) = TailOver t

-- plain
abbrev pub PlainOver : {scope : Scope} {i o : Input} {c : PlainCall} → PlainAt scope i c o → Type 0
PlainOver (calling.plain n p t) = TailOver t

-- atom [ ("+" | "-") atom ]
abbrev pub ExpressionOver : {i o : Input} {x : Expression} → ExpressionAt i x o → Type 0
ExpressionOver (acting.one {o = o} p) = (kind o ≢ k.Plus) × (kind o ≢ k.Minus)
ExpressionOver _ = Unit {0}

-- a statement that neither calls nor branches
abbrev pub ActionOver : {i o : Input} {a : Action} → ActionAt i a o → Type 0
ActionOver (acting.set_number p m q) = ExpressionOver q
ActionOver _ = Unit {0}

-- cond
abbrev pub ConditionOver : {scope : Scope} {i o : Input} {c : Condition} → ConditionAt scope i c o → Type 0
ConditionOver (acting.test p) = Unit {0}
ConditionOver (acting.succeeds p) = FallibleOver p

-- [ "else" block ]
abbrev pub ElseOver : {scope : Scope} {d r : ℕ} {i o : Input} {ss : List Statement} → ElseAt scope d r i ss o → Type 0
ElseOver (grammar.no_else {i = i}) = kind i ≢ k.Else
ElseOver (grammar.some_else n p) = Unit {0}

-- stmt
abbrev pub StatementOver : {scope : Scope} {d r : ℕ} {i o : Input} {s : Statement} → StatementAt scope d r i s o → Type 0
StatementOver (grammar.act p) = ActionOver p
StatementOver (grammar.call p) = PlainOver p
StatementOver (grammar.return n p) = OptionalStatusOver p
StatementOver (grammar.choice n p q x) = ElseOver x
StatementOver (grammar.repeat n p h q) = Unit {0}

-- [ "queue" ]
abbrev pub QueueOver : {i o : Input} {q : Option Position} → QueueAt i q o → Type 0
QueueOver (grammar.no_queue {i = i}) = kind i ≢ k.Queue
QueueOver (grammar.some_queue n) = Unit {0}
