-- What may be so in a situation, and what an instruction makes of it. Read from the call table; this project's own.
use Rattle.std.specs.Prelude.{◌≡◌, Bool, true, false, not, ◌&&◌, ◌||◌, IsTrue, Option, Some, None, length}
use Rattle.flt_rules.specs.Held.{holds_lock}
use Rattle.flt_rules.specs.Place.{is_irp, same_mode}
use Rattle.flt_rules.specs.Table.{row}
use Rattle.flt_rules.specs.declared.call.LockNumber.{LockNumber}
use Rattle.flt_rules.specs.declared.columns.Change.{Change}
use Rattle.flt_rules.specs.declared.columns.Change.TheVariants as becomes
use Rattle.flt_rules.specs.declared.columns.Effects.{Effects}
use Rattle.flt_rules.specs.declared.columns.LockChange.{LockChange}
use Rattle.flt_rules.specs.declared.columns.LockChange.TheVariants as list
use Rattle.flt_tree.specs.declared.filter.Action.{Action}
use Rattle.flt_tree.specs.declared.filter.Action.TheVariants as action
use Rattle.flt_tree.specs.declared.filter.Test.{Test}
use Rattle.flt_tree.specs.declared.filter.Test.TheVariants as test
use Rattle.flt_tree.specs.declared.variable.ContextVariable.{ContextVariable}
use Rattle.flt_tree.specs.declared.variable.OperationVariable.{OperationVariable}
use Rattle.flt_tree.specs.declared.variable.OperationVariable.TheVariants.{Removed}
use Rattle.flt_graph.specs.Instruction.{roles}
use Rattle.flt_graph.specs.declared.instruction.Instruction.{Instruction}
use Rattle.flt_graph.specs.declared.instruction.Instruction.TheVariants as instruction
use Rattle.flt_graph.specs.declared.instruction.Invocation.{Invocation}
use Rattle.flt_abs.specs.Locks.{are_locks}
use Rattle.flt_abs.specs.Outcome.{context_now, operation_now, can_fail, agrees, may_come_out, leaves}
use Rattle.flt_abs.specs.State.{Status, Null, Held, Stale, Situation}
use Rattle.flt_explain.specs.About.{is_context, is_operation, is_lock}
use Rattle.flt_explain_origins.specs.declared.facts.Fact.{Fact}
use Rattle.flt_explain_origins.specs.declared.facts.Fact.TheVariants as fact
use Rattle.flt_explain_origins.specs.declared.facts.VariableStatus.{VariableStatus}
use Rattle.flt_explain_origins.specs.declared.facts.VariableStatus.TheVariants as is

-- ---- facts

abbrev pub same_status : VariableStatus → Status → Bool
same_status is.Null Null = true
same_status is.Held Held = true
same_status is.Stale Stale = true
same_status _ _ = false

-- whether a fact is so in a situation
abbrev pub is_so : Fact → Situation → Bool
is_so (fact.Context c s) t = same_status s (context_now t c)
is_so (fact.Operation d s) t = same_status s (operation_now t d)
is_so (fact.Mode m) t = same_mode m t.mode
is_so (fact.Draining b) t = agrees t.draining b
is_so (fact.Lock l b) t = agrees (holds_lock l t.locks) b

-- ---- what becomes of a variable or a lock

-- what becomes of a variable, if it is the one that is named
abbrev pub change_of : Bool → Change → Change
change_of true change = change
change_of false change = becomes.Stays

-- the later of two changes
abbrev pub latest : Change → Change → Change
latest becomes.Stays first = first
latest becomes.Null first = becomes.Null
latest becomes.Held first = becomes.Held
latest becomes.Stale first = becomes.Stale
latest becomes.NullOrHeld first = becomes.NullOrHeld

-- by a call that had these effects; a variable that receives a context is written last
abbrev pub called_context : Invocation → Effects → ContextVariable → Change
called_context c e v = latest (change_of (is_context c.output v) e.output) (change_of (is_context c.context v) e.context)

abbrev pub called_operation : Invocation → Effects → OperationVariable → Change
called_operation c e v = change_of (is_operation c.operation v) e.operation

abbrev pub lock_change_of : Bool → LockChange → LockChange
lock_change_of true change = change
lock_change_of false change = list.Stays

abbrev pub called_lock : Invocation → Effects → LockNumber → LockChange
called_lock c e l = lock_change_of (is_lock c.lock l) e.lock

-- by a call that failed, if it can
abbrev pub failed_context : Invocation → Option Effects → ContextVariable → Change
failed_context c (Some e) v = called_context c e v
failed_context c None v = becomes.Stays

abbrev pub failed_operation : Invocation → Option Effects → OperationVariable → Change
failed_operation c (Some e) v = called_operation c e v
failed_operation c None v = becomes.Stays

abbrev pub failed_lock : Invocation → Option Effects → LockNumber → LockChange
failed_lock c (Some e) l = called_lock c e l
failed_lock c None l = list.Stays

-- by a statement that neither calls nor branches
abbrev pub acted_context : Action → ContextVariable → Change
acted_context (action.ClearContext c) v = change_of (is_context (Some c) v) becomes.Null
acted_context _ v = becomes.Stays

abbrev pub acted_operation : Action → OperationVariable → Change
acted_operation (action.ClearOperation o) v = change_of (is_operation (Some (Removed o)) v) becomes.Null
acted_operation _ v = becomes.Stays

-- by an instruction that comes out so
abbrev pub context_change : Instruction → Bool → ContextVariable → Change
context_change (instruction.Act a next) outcome v = acted_context a v
context_change (instruction.Call c granted refused) true v = called_context (roles c) (row (roles c).call).on_ok v
context_change (instruction.Call c granted refused) false v = failed_context (roles c) (row (roles c).call).on_fail v
context_change _ outcome v = becomes.Stays

abbrev pub operation_change : Instruction → Bool → OperationVariable → Change
operation_change (instruction.Act a next) outcome v = acted_operation a v
operation_change (instruction.Call c granted refused) true v = called_operation (roles c) (row (roles c).call).on_ok v
operation_change (instruction.Call c granted refused) false v = failed_operation (roles c) (row (roles c).call).on_fail v
operation_change _ outcome v = becomes.Stays

abbrev pub lock_change : Instruction → Bool → LockNumber → LockChange
lock_change (instruction.Call c granted refused) true l = called_lock (roles c) (row (roles c).call).on_ok l
lock_change (instruction.Call c granted refused) false l = failed_lock (roles c) (row (roles c).call).on_fail l
lock_change _ outcome l = list.Stays

-- ---- what makes a fact

-- whether a change leaves a variable with a status; a call that may give nothing gave something, or did not
abbrev pub is_left : Change → Bool → VariableStatus → Bool
is_left becomes.Null gives is.Null = true
is_left becomes.Held gives is.Held = true
is_left becomes.Stale gives is.Stale = true
is_left becomes.NullOrHeld gives is.Held = gives
is_left becomes.NullOrHeld gives is.Null = not gives
is_left _ gives s = false

-- whether a change leaves a lock held, or not held
abbrev pub is_lock_left : LockChange → Bool → Bool
is_lock_left list.Stays b = false
is_lock_left (list.Taken access) b = b
is_lock_left list.Released b = not b

-- whether a fact is so behind an instruction that came out so, whatever was so before
abbrev pub makes : Instruction → Bool → Bool → Fact → Bool
makes i outcome gives (fact.Context c s) = is_left (context_change i outcome c) gives s
makes i outcome gives (fact.Operation d s) = is_left (operation_change i outcome d) gives s
makes i outcome gives (fact.Lock l b) = is_lock_left (lock_change i outcome l) b
makes i outcome gives _ = false

-- ---- what keeps a fact

abbrev pub stays : Change → Bool
stays becomes.Stays = true
stays _ = false

abbrev pub lock_stays : LockChange → Bool
lock_stays list.Stays = true
lock_stays _ = false

-- whether an instruction that comes out so doesn't touch what a fact is about
abbrev pub leaves_alone : Instruction → Bool → Fact → Bool
leaves_alone i outcome (fact.Context c s) = stays (context_change i outcome c)
leaves_alone i outcome (fact.Operation d s) = stays (operation_change i outcome d)
leaves_alone i outcome (fact.Lock l b) = lock_stays (lock_change i outcome l)
leaves_alone i outcome _ = true

abbrev pub is_null_status : VariableStatus → Bool
is_null_status is.Null = true
is_null_status is.Held = false
is_null_status is.Stale = false

-- what a test of a variable finds, if it is the fact's
abbrev pub finds : Bool → VariableStatus → Bool → Bool
finds true s outcome = agrees (not (is_null_status s)) outcome
finds false s outcome = true

-- whether a test may come out so where a fact is so
abbrev pub may_find_with : Test → Fact → Bool → Bool
may_find_with (test.ContextIsSome c) (fact.Context v s) outcome = finds (is_context (Some c) v) s outcome
may_find_with (test.OperationIsSome o) (fact.Operation v s) outcome = finds (is_operation (Some (Removed o)) v) s outcome
may_find_with test.IsIrp (fact.Mode m) outcome = agrees (is_irp m) outcome
may_find_with test.IsDraining (fact.Draining b) outcome = agrees b outcome
may_find_with _ f outcome = true

-- whether an instruction may come out so where a fact is so
abbrev pub lets_pass : Instruction → Bool → Fact → Bool
lets_pass (instruction.Act a next) outcome f = outcome
lets_pass (instruction.Call c granted refused) true f = true
lets_pass (instruction.Call c granted refused) false f = can_fail (row (roles c).call).on_fail
lets_pass (instruction.Test t granted refused) outcome f = may_find_with t f outcome
lets_pass (instruction.Repeat turns block next) outcome f = true
lets_pass (instruction.Return status) outcome f = false
lets_pass instruction.End outcome f = false

-- whether an instruction may come out so where a fact is so, and doesn't touch it
abbrev pub keeps : Instruction → Bool → Fact → Bool
keeps i outcome f = leaves_alone i outcome f && lets_pass i outcome f

-- ---- the laws

-- a situation has a status for each of nine variables of contexts and five of operations, and no lock is held twice
pub record IsWhole (t : Situation) : Type 0 where
  pub contexts : length t.contexts ≡ 9
  pub operations : length t.operations ≡ 5
  pub locks : IsTrue (are_locks t.locks)

-- what makes a fact leaves it so, whatever was so before
abbrev pub Made : Type 0
Made = (i : Instruction) (outcome gives : Bool) (f : Fact) (t : Situation) → IsWhole t → IsTrue (makes i outcome gives f) →
    IsTrue (is_so f (leaves i outcome gives t))

-- what keeps a fact leaves it as it was
abbrev pub Kept : Type 0
Kept = (i : Instruction) (outcome gives : Bool) (f : Fact) (t : Situation) → IsWhole t → IsTrue (keeps i outcome f) →
    is_so f (leaves i outcome gives t) ≡ is_so f t

-- what is so behind an instruction was made there, or was so before and is kept
abbrev pub MadeOrKept : Type 0
MadeOrKept = (i : Instruction) (outcome gives : Bool) (f : Fact) (t : Situation) → IsWhole t → IsTrue (may_come_out i t outcome) →
    IsTrue (is_so f (leaves i outcome gives t)) → IsTrue (makes i outcome gives f || (keeps i outcome f && is_so f t))
