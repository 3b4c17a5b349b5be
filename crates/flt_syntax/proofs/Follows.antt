-- What may follow what is spelled: there it is over. And with what no statement begins.
use Rattle.std.proofs.Common.{◌≡◌, ◌≢◌, ℕ, Bool, true, false, List, refl, sym, ap, ◌∙◌}
use Rattle.std.specs.Prelude.{Option, ◌&&◌, ◌||◌}
use Rattle.flt_syntax.specs.declared.shape.Operands.{Operands}
use Rattle.flt_syntax.specs.declared.shape.Tail.{Tail}
use Rattle.flt_syntax.specs.declared.token.Kind.{Kind}
use Rattle.flt_syntax.specs.declared.token.Kind.TheVariants as k
use Rattle.flt_tree.specs.declared.filter.Action.{Action}
use Rattle.flt_tree.specs.declared.filter.Condition.{Condition}
use Rattle.flt_tree.specs.declared.filter.FallibleCall.{FallibleCall}
use Rattle.flt_tree.specs.declared.filter.PlainCall.{PlainCall}
use Rattle.flt_tree.specs.declared.filter.Routine.{Routine}
use Rattle.flt_tree.specs.declared.filter.Statement.{Statement}
use Rattle.flt_tree.specs.declared.filter.Status.{Status}
use Rattle.flt_tree.specs.declared.variable.ContextVariable.{ContextVariable}
use Rattle.flt_tree.specs.declared.variable.Expression.{Expression}
use Rattle.flt_tree.specs.declared.variable.NumberVariable.{NumberVariable}
use Rattle.flt_tree.specs.declared.variable.RemovedVariable.{RemovedVariable}
use Rattle.flt_syntax.specs.ActionGrammar as acting
use Rattle.flt_syntax.specs.ActionGrammar.{ExpressionAt, ActionAt, ConditionAt}
use Rattle.flt_syntax.specs.CallGrammar as calling
use Rattle.flt_syntax.specs.CallGrammar.{StatusAt, OptionalStatusAt, TailAt, FallibleAt, PlainAt}
use Rattle.flt_syntax.specs.Cursor.{Input, kind, sees}
use Rattle.flt_syntax.specs.FirstWords.{begins_status, begins_plain, has_blocks}
use Rattle.flt_syntax.specs.Grammar as s
use Rattle.flt_syntax.specs.Grammar.{StatementAt, ElseAt, StatementsAt}
use Rattle.flt_syntax.specs.Over.{OptionalOver, StatusOver, OptionalStatusOver, FallibleOver, PlainOver, ExpressionOver, ActionOver}
use Rattle.flt_syntax.specs.Over.{ConditionOver, ElseOver, StatementOver, TailOver}
use Rattle.flt_syntax.specs.Scope.{Scope}
use Rattle.flt_syntax.specs.Tables.{number_variable_of, removed_variable_of}
use Rattle.flt_syntax.specs.Words as words
use Rattle.flt_syntax.specs.Words.{Next, Meant, ContextAt, OptionalAt}
use Rattle.flt_syntax.proofs.TokenKinds.{differ}
use Rattle.flt_syntax.proofs.Complete.{kind_is, means, apart, other, left_false, right_false, some_of, is_number, is_context, is_removed}
use Rattle.flt_syntax.proofs.CompleteCalls.{plain_begins}

-- ---- words and symbols that go on, and those with which nothing begins

-- words and symbols with which an optional part begins
abbrev pub is_tail : Kind → Bool
is_tail k.Else = true
is_tail k.Context = true
is_tail k.Old = true
is_tail k.Plus = true
is_tail k.Minus = true
is_tail _ = false

-- what would go on with what stands before it
abbrev pub goes_on : Kind → Bool
goes_on kind = begins_status kind || is_tail kind

abbrev pub is_close : Kind → Bool
is_close k.CloseBrace = true
is_close _ = false

-- with what no statement begins
abbrev pub unstarted : Kind → Bool
unstarted kind = goes_on kind || is_close kind

-- with what no statement without blocks begins
abbrev pub not_simple : Kind → Bool
not_simple kind = unstarted kind || has_blocks kind

-- by cases: each kind is tried
number_simple : (a : Kind) → (is_number a && not_simple a) ≡ false
number_simple k.OpenBrace = refl
number_simple _ = refl

context_simple : (a : Kind) → (is_context a && not_simple a) ≡ false
context_simple k.OpenBrace = refl
context_simple _ = refl

removed_simple : (a : Kind) → (is_removed a && not_simple a) ≡ false
removed_simple k.OpenBrace = refl
removed_simple _ = refl

plain_simple : (a : Kind) → (begins_plain a && not_simple a) ≡ false
plain_simple k.OpenBrace = refl
plain_simple _ = refl

-- ---- what may follow

abbrev pub Follows : Input → Type 0
Follows i = goes_on (kind i) ≡ false

no_tail : (kd : Kind) (i : Input) → Follows i → is_tail kd ≡ true → kind i ≢ kd
no_tail kd i f e same = differ (sym (right_false (begins_status (kind i)) (is_tail (kind i)) f) ∙ ap is_tail same ∙ e)

no_status : (i : Input) → Follows i → begins_status (kind i) ≡ false
no_status i f = left_false (begins_status (kind i)) (is_tail (kind i)) f

-- an opening brace may follow
pub follows_open : {i o : Input} → Next k.OpenBrace i o → Follows i
follows_open n = ap goes_on (kind_is n)

follows_close : {i o : Input} → Next k.CloseBrace i o → Follows i
follows_close n = ap goes_on (kind_is n)

-- ---- what is followed so is over

optional_over : {word : Kind} {i o : Input} {c : Option ContextVariable} (p : OptionalAt word i c o) → is_tail word ≡ true → Follows o →
    OptionalOver p
optional_over {word = word} (words.without {i = i}) e f = no_tail word i f e
optional_over (words.behind n p) e f = tt

status_over : {i o : Input} {x : Status} (p : StatusAt i x o) → Follows o → StatusOver p
status_over (calling.with_callback n p) f = optional_over p refl f
status_over (calling.synchronize n p) f = optional_over p refl f
status_over _ f = tt

optional_status_over : {i o : Input} {x : Option Status} (p : OptionalStatusAt i x o) → Follows o → OptionalStatusOver p
optional_status_over (calling.no_status {i = i}) f = no_status i f
optional_status_over (calling.some_status p) f = status_over p f

tail_over : {t : Tail} {x y : Operands} {i o : Input} (p : TailAt t x i y o) → Follows o → TailOver p
tail_over calling.nothing f = tt
tail_over (calling.with_context p) f = optional_over p refl f
tail_over (calling.old p) f = optional_over p refl f
tail_over (calling.other_old p h) f = optional_over p refl f
tail_over (calling.status p) f = status_over p f

fallible_over : {scope : Scope} {i o : Input} {c : FallibleCall Routine} (p : FallibleAt scope i c o) → Follows o → FallibleOver p
fallible_over (calling.fallible n q p t) f = tail_over t f

plain_over : {scope : Scope} {i o : Input} {c : PlainCall} (p : PlainAt scope i c o) → Follows o → PlainOver p
plain_over (calling.plain n p t) f = tail_over t f

expression_over : {i o : Input} {x : Expression} (p : ExpressionAt i x o) → Follows o → ExpressionOver p
expression_over (acting.one {o = o} p) f = (no_tail k.Plus o f refl, no_tail k.Minus o f refl)
expression_over _ f = tt

action_over : {i o : Input} {a : Action} (p : ActionAt i a o) → Follows o → ActionOver p
action_over (acting.set_number p m q) f = expression_over q f
action_over _ f = tt

-- a test is over before what may follow it
pub condition_over : {scope : Scope} {i o : Input} {c : Condition} (p : ConditionAt scope i c o) → Follows o → ConditionOver p
condition_over (acting.test p) f = tt
condition_over (acting.succeeds p) f = fallible_over p f

else_over : {scope : Scope} {d r : ℕ} {i o : Input} {ss : List Statement} (p : ElseAt scope d r i ss o) → Follows o → ElseOver p
else_over (s.no_else {i = i}) f = no_tail k.Else i f refl
else_over (s.some_else n p) f = tt

-- a statement is over before what may follow it
pub statement_over : {scope : Scope} {d r : ℕ} {i o : Input} {x : Statement} (p : StatementAt scope d r i x o) → Follows o →
    StatementOver p
statement_over (s.act p) f = action_over p f
statement_over (s.call p) f = plain_over p f
statement_over (s.return n p) f = optional_status_over p f
statement_over (s.choice n p q x) f = else_over x f
statement_over (s.repeat n p h q) f = tt

-- ---- a statement may follow, and begins with no closing brace

-- with a variable begins a statement without blocks
pub number_simply : {i o : Input} {n : NumberVariable} → Meant number_variable_of i n o → not_simple (kind i) ≡ false
number_simply {i = i} p = other is_number not_simple (kind i) (number_simple (kind i)) (some_of (means p))

-- the same of contexts
pub context_simply : {i o : Input} {c : ContextVariable} → ContextAt i c o → not_simple (kind i) ≡ false
context_simply {i = i} p = other is_context not_simple (kind i) (context_simple (kind i)) (some_of (means p))

-- the same of removed operations
pub removed_simply : {i o : Input} {x : RemovedVariable} → Meant removed_variable_of i x o → not_simple (kind i) ≡ false
removed_simply {i = i} p = other is_removed not_simple (kind i) (removed_simple (kind i)) (some_of (means p))

-- what neither calls nor branches begins a statement without blocks
pub action_simply : {i o : Input} {a : Action} → ActionAt i a o → not_simple (kind i) ≡ false
action_simply (acting.set_number p m q) = number_simply p
action_simply (acting.read_value p m w q) = number_simply p
action_simply (acting.read_file p m w q) = number_simply p
action_simply (acting.write_value n p m q) = ap not_simple (kind_is n)
action_simply (acting.clear_context p m n) = context_simply p
action_simply (acting.clear_operation p m n) = removed_simply p

plain_simply : {scope : Scope} {i o : Input} {c : PlainCall} → PlainAt scope i c o → not_simple (kind i) ≡ false
plain_simply {i = i} p = other begins_plain not_simple (kind i) (plain_simple (kind i)) (plain_begins p)

-- what begins a statement without blocks has no blocks
pub no_blocks : (i : Input) → not_simple (kind i) ≡ false → has_blocks (kind i) ≡ false
no_blocks i e = right_false (unstarted (kind i)) (has_blocks (kind i)) e

starts_simply : (i : Input) → not_simple (kind i) ≡ false → unstarted (kind i) ≡ false
starts_simply i e = left_false (unstarted (kind i)) (has_blocks (kind i)) e

statement_starts : {scope : Scope} {d r : ℕ} {i o : Input} {s : Statement} → StatementAt scope d r i s o → unstarted (kind i) ≡ false
statement_starts {i = i} (s.act p) = starts_simply i (action_simply p)
statement_starts {i = i} (s.call p) = starts_simply i (plain_simply p)
statement_starts (s.return n p) = ap unstarted (kind_is n)
statement_starts (s.choice n _ _ _) = ap unstarted (kind_is n)
statement_starts (s.repeat n _ _ _) = ap unstarted (kind_is n)

statement_follows : {scope : Scope} {d r : ℕ} {i o : Input} {s : Statement} → StatementAt scope d r i s o → Follows i
statement_follows {i = i} p = left_false (goes_on (kind i)) (is_close (kind i)) (statement_starts p)

-- no statement begins with a closing brace
pub statement_stays : {scope : Scope} {d r : ℕ} {i o : Input} {s : Statement} → StatementAt scope d r i s o → sees k.CloseBrace i ≡ false
statement_stays {i = i} p = apart is_close (kind i) k.CloseBrace
    (right_false (goes_on (kind i)) (is_close (kind i)) (statement_starts p)) refl

-- statements may follow what stands before them
pub statements_follow : {scope : Scope} {d r : ℕ} {i o e : Input} {ss : List Statement} → StatementsAt scope d r i ss o →
    Next k.CloseBrace o e → Follows i
statements_follow s.empty n = follows_close n
statements_follow (s.go_on p _) n = statement_follows p
