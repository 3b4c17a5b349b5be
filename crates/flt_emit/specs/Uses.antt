-- What stands in the body of a callback, so that C declares it, and whether a body comes to its end.
use Rattle.std.specs.Prelude.{ℕ, Bool, true, false, not, ◌==◌, ◌&&◌, ◌||◌, List, map, Option, Some, None}
use Rattle.std.specs.List.{list_any}
use Rattle.flt_rules.specs.Call.{place_of}
use Rattle.flt_rules.specs.declared.call.LockNumber.{LockNumber}
use Rattle.flt_tree.specs.Filter.{context_of}
use Rattle.flt_tree.specs.Variable.{context_place, number_place, operation_place}
use Rattle.flt_tree.specs.declared.filter.Action.{Action}
use Rattle.flt_tree.specs.declared.filter.Action.TheVariants.{SetNumber, ReadValue, ReadFile, WriteValue, ClearContext, ClearOperation}
use Rattle.flt_tree.specs.declared.filter.Condition.{Condition}
use Rattle.flt_tree.specs.declared.filter.Condition.TheVariants as made
use Rattle.flt_tree.specs.declared.filter.FallibleCall.{FallibleCall}
use Rattle.flt_tree.specs.declared.filter.FallibleCall.TheVariants as fallible
use Rattle.flt_tree.specs.declared.filter.PlainCall.{PlainCall}
use Rattle.flt_tree.specs.declared.filter.PlainCall.TheVariants as plain
use Rattle.flt_tree.specs.declared.filter.Routine.{Routine}
use Rattle.flt_tree.specs.declared.filter.Statement.{Statement}
use Rattle.flt_tree.specs.declared.filter.Statement.TheFolds.{fold-Statement}
use Rattle.flt_tree.specs.declared.filter.Statement.TheOpen.{Statement-F}
use Rattle.flt_tree.specs.declared.filter.Status.{Status}
use Rattle.flt_tree.specs.declared.filter.Test.{Test}
use Rattle.flt_tree.specs.declared.filter.Test.TheVariants.{ContextIsSome, OperationIsSome, Equal, Less}
use Rattle.flt_tree.specs.declared.variable.ContextVariable.{ContextVariable}
use Rattle.flt_tree.specs.declared.variable.Expression.{Expression}
use Rattle.flt_tree.specs.declared.variable.Expression.TheVariants as expressions
use Rattle.flt_tree.specs.declared.variable.NumberVariable.{NumberVariable}
use Rattle.flt_tree.specs.declared.variable.OperationVariable.{OperationVariable}
use Rattle.flt_tree.specs.declared.variable.OperationVariable.TheVariants.{Removed}
use Rattle.flt_emit.specs.Expressions.{is_variable, is_zero}
use Rattle.flt_emit.specs.declared.uses.Use.{Use}
use Rattle.flt_emit.specs.declared.uses.Use.TheVariants as use_of

-- ---- variables and locks

abbrev pub same_number : NumberVariable → NumberVariable → Bool
same_number n m = number_place n == number_place m

abbrev pub same_context : ContextVariable → ContextVariable → Bool
same_context c d = context_place c == context_place d

abbrev pub is_context : ContextVariable → Option ContextVariable → Bool
is_context c None = false
is_context c (Some d) = same_context c d

abbrev pub same_operation : OperationVariable → OperationVariable → Bool
same_operation d e = operation_place d == operation_place e

-- whether a lock has the place
abbrev pub is_lock_at : ℕ → LockNumber → Bool
is_lock_at place l = place == place_of l

-- ---- statements that don't branch

-- whether an expression names the variable
abbrev pub in_expression : NumberVariable → Expression → Bool
in_expression n (expressions.Atom x) = is_variable n x
in_expression n (expressions.Sum x y) = is_variable n x || is_variable n y
in_expression n (expressions.Difference x y) = is_variable n x || is_variable n y

abbrev pub in_action : Use → Action → Bool
in_action (use_of.Number n) (SetNumber m e) = same_number n m || in_expression n e
in_action (use_of.Number n) (ReadValue m c) = same_number n m
in_action (use_of.Number n) (ReadFile m d) = same_number n m
in_action (use_of.Number n) (WriteValue c x) = is_variable n x
in_action (use_of.Read n) (SetNumber m e) = in_expression n e
in_action (use_of.Read n) (WriteValue c x) = is_variable n x
in_action (use_of.Context c) (ReadValue n d) = same_context c d
in_action (use_of.Context c) (WriteValue d x) = same_context c d
in_action (use_of.Context c) (ClearContext d) = same_context c d
in_action (use_of.Operation d) (ReadFile n e) = same_operation d e
in_action (use_of.Operation d) (ClearOperation o) = same_operation d (Removed o)
in_action _ action = false

abbrev pub in_plain : Use → PlainCall → Bool
in_plain (use_of.Context c) (plain.DeleteContext d) = same_context c d
in_plain (use_of.Context c) (plain.ReferenceContext d e) = same_context c d || same_context c e
in_plain (use_of.Context c) (plain.ReleaseContext d) = same_context c d
in_plain (use_of.Context c) (plain.CompletePendedPreOperation d s) = is_context c (context_of s)
in_plain (use_of.Operation d) (plain.CompletePendedPreOperation e s) = same_operation d e
in_plain (use_of.Lock place) (plain.AcquireLock kind l) = is_lock_at place l
in_plain (use_of.Lock place) (plain.AcquirePushLockShared l) = is_lock_at place l
in_plain (use_of.Lock place) (plain.ReleaseLock kind l) = is_lock_at place l
in_plain _ call = false

abbrev pub in_return : Use → Option Status → Bool
in_return use_of.Return s = true
in_return (use_of.Context c) (Some s) = is_context c (context_of s)
in_return _ s = false

-- ---- what an `if` asks

-- a comparison whose value is known reads nothing: it stands in a comment
abbrev pub in_test : Use → Test → Bool
in_test (use_of.Number n) (Equal m x) = same_number n m || is_variable n x
in_test (use_of.Number n) (Less m x) = same_number n m || is_variable n x
in_test (use_of.Read n) (Equal m x) = not (is_variable m x) && (same_number n m || is_variable n x)
in_test (use_of.Read n) (Less m x) = not (is_variable m x || is_zero x) && (same_number n m || is_variable n x)
in_test (use_of.Context c) (ContextIsSome d) = same_context c d
in_test (use_of.Operation d) (OperationIsSome o) = same_operation d (Removed o)
in_test _ test = false

-- whether a call names the context
abbrev pub names_context : ContextVariable → FallibleCall Routine → Bool
names_context c (fallible.AllocateContext d) = same_context c d
names_context c (fallible.GetContext anchor d) = same_context c d
names_context c (fallible.SetContext anchor existing d old) = same_context c d || is_context c old
names_context c (fallible.DeleteContextOf anchor old) = is_context c old
names_context c (fallible.InsertIo d) = is_context c d
names_context c (fallible.RemoveNextIo o d) = same_context c d
names_context c (fallible.QueueDeferredIoWorkItem r d) = is_context c d
names_context c (fallible.QueueGenericWorkItem r d) = is_context c d

-- whether a call removes an operation from the queue into the variable
abbrev pub removes : OperationVariable → FallibleCall Routine → Bool
removes d (fallible.RemoveNextIo o c) = same_operation d (Removed o)
removes d call = false

abbrev pub in_fallible : Use → FallibleCall Routine → Bool
in_fallible (use_of.Context c) call = names_context c call
in_fallible (use_of.Operation d) call = removes d call
in_fallible _ call = false

abbrev pub in_condition : Use → Condition → Bool
in_condition sought (made.Test t) = in_test sought t
in_condition sought (made.Succeeds c) = in_fallible sought c

-- ---- bodies

abbrev pub is_any : List Bool → Bool
is_any = list_any (λ b. b)

abbrev pub stands_step : Use → Statement-F Bool → Bool
stands_step sought (Statement-F.Act at action) = in_action sought action
stands_step sought (Statement-F.Call at call) = in_plain sought call
stands_step sought (Statement-F.Return at status) = in_return sought status
stands_step sought (Statement-F.If at asked granted refused) = in_condition sought asked || (is_any granted || is_any refused)
stands_step sought (Statement-F.Repeat at turns body) = is_any body

abbrev pub stands_in_statement : Use → Statement → Bool
stands_in_statement sought = fold-Statement Bool (stands_step sought)

-- whether it stands in a body
abbrev pub stands_in : Use → List Statement → Bool
stands_in sought body = is_any (map (stands_in_statement sought) body)

-- whether a statement returns on each of its ways
abbrev pub returns_step : Statement-F Bool → Bool
returns_step (Statement-F.Return at status) = true
returns_step (Statement-F.If at asked granted refused) = is_any granted && is_any refused
returns_step _ = false

abbrev pub statement_returns : Statement → Bool
statement_returns = fold-Statement Bool returns_step

-- whether a body never comes to its end
abbrev pub returns : List Statement → Bool
returns body = is_any (map statement_returns body)

-- ---- what is declared

-- whether it stands in a body
unfoldable pub is_used : Use → List Statement → Bool
is_used = stands_in

-- whether a body never comes to its end
unfoldable pub always_returns : List Statement → Bool
always_returns = returns
