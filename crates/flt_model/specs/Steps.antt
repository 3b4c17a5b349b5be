-- One transition of the machine, with its events, or nothing where it isn't enabled.
use Rattle.std.specs.Prelude.{ℕ, Bool, true, false, ◌&&◌, ◌||◌, if◌then◌else◌, List, [], ◌∷◌, ◌++◌, Option, Some, None, option_map, set}
use Rattle.flt_rules.specs.declared.call.LockNumber.{LockNumber}
use Rattle.flt_rules.specs.declared.held.Access.{Access}
use Rattle.flt_rules.specs.declared.held.Access.TheVariants.{Exclusive, Shared}
use Rattle.flt_tree.specs.Registered.{numbered}
use Rattle.flt_tree.specs.declared.filter.Action.{Action}
use Rattle.flt_tree.specs.declared.filter.Action.TheVariants as action
use Rattle.flt_tree.specs.declared.filter.Condition.{Condition}
use Rattle.flt_tree.specs.declared.filter.Condition.TheVariants as condition
use Rattle.flt_tree.specs.declared.filter.FallibleCall.{FallibleCall}
use Rattle.flt_tree.specs.declared.filter.FallibleCall.TheVariants as fallible
use Rattle.flt_tree.specs.declared.filter.Filter.{Filter}
use Rattle.flt_tree.specs.declared.filter.PlainCall.{PlainCall}
use Rattle.flt_tree.specs.declared.filter.PlainCall.TheVariants as plain
use Rattle.flt_tree.specs.declared.filter.Routine.{Routine}
use Rattle.flt_tree.specs.declared.filter.Statement.{Statement, out-Statement}
use Rattle.flt_tree.specs.declared.filter.Statement.TheOpen.{Statement-F}
use Rattle.flt_tree.specs.declared.filter.Test.{Test}
use Rattle.flt_tree.specs.declared.filter.Test.TheVariants as test
use Rattle.flt_model.specs.declared.event.Event.{Event}
use Rattle.flt_model.specs.declared.moves.Move.{Move}
use Rattle.flt_model.specs.Calls.{allocate, get, set_context, delete_at, delete, reference, release, acquire, acquire_shared, release_lock}
use Rattle.flt_model.specs.Calls.{insert, remove_next, queue_deferred, queue_generic, complete_pre, complete_post}
use Rattle.flt_model.specs.Effects.{Step}
use Rattle.flt_model.specs.LocalSteps.{local_step}
use Rattle.flt_model.specs.Locks.{holders_of, is_free_for}
use Rattle.flt_model.specs.Moves.{make}
use Rattle.flt_model.specs.Program.{callbacks_at}
use Rattle.flt_model.specs.Reads.{read_value, write_value, read_file, test_irp}
use Rattle.flt_model.specs.Returns.{returns}
use Rattle.flt_model.specs.World.{World, Activation, activation_at, actor_at}

-- what may happen next: a move, a step of an activation that nobody sees, or one that others see, with the choice that it
-- leaves to the system
pub data Transition : Type 0 where
  Make : (move : Move) → Transition
  Local : (activation : ℕ) → Transition
  Board : (activation : ℕ) → (grant : Bool) → Transition

-- ---- which choice there is

-- an allocation or a work item may be refused by the system; all else is decided by the world
abbrev pub may_be_refused : FallibleCall Routine → Bool
may_be_refused (fallible.AllocateContext d) = true
may_be_refused (fallible.QueueDeferredIoWorkItem r c) = true
may_be_refused (fallible.QueueGenericWorkItem r c) = true
may_be_refused _ = false

-- whether a condition leaves the system a choice
abbrev pub leaves_choice : Condition → Bool
leaves_choice (condition.Succeeds c) = may_be_refused c
leaves_choice (condition.Test t) = false

-- whether the activation may take a lock of its filter so, beside the others that hold it
abbrev pub may_take : World → ℕ → LockNumber → Access → Bool
may_take w a l access = is_free_for a access (holders_of w.store (actor_at w a).filter l)

-- whether the first statement can go on with this choice: a lock that it asks for isn't held by others in a way that refuses it
abbrev pub may_go : World → ℕ → Bool → Statement-F Statement → Bool
may_go w a grant (Statement-F.If span asked granted refused) = grant || leaves_choice asked
may_go w a grant (Statement-F.Call span (plain.AcquireLock k l)) = grant && may_take w a l Exclusive
may_go w a grant (Statement-F.Call span (plain.AcquirePushLockShared l)) = grant && may_take w a l Shared
may_go w a grant _ = grant

-- ---- steps that others see; a local one is none

-- a call that can fail, which names its routine by number
abbrev pub numbered_step : World → ℕ → Bool → List Statement → List Statement → FallibleCall ℕ → Step
numbered_step w a grant granted refused (fallible.AllocateContext d) = allocate w a d grant granted refused
numbered_step w a grant granted refused (fallible.GetContext on d) = get w a on d granted refused
numbered_step w a grant granted refused (fallible.SetContext on existing c old) = set_context w a on existing c old granted refused
numbered_step w a grant granted refused (fallible.DeleteContextOf on old) = delete_at w a on old granted refused
numbered_step w a grant granted refused (fallible.InsertIo c) = insert w a c granted refused
numbered_step w a grant granted refused (fallible.RemoveNextIo o d) = remove_next w a o d granted refused
numbered_step w a grant granted refused (fallible.QueueDeferredIoWorkItem n c) = queue_deferred w a n c grant granted refused
numbered_step w a grant granted refused (fallible.QueueGenericWorkItem n c) = queue_generic w a n c grant granted refused

module _ (p : List Filter) (t : List Event) (w : World) (a : ℕ) where
  -- an action that others see
  abbrev pub act_step : List Statement → Action → Option Step
  act_step rest (action.ReadValue n c) = Some (read_value w a n c rest)
  act_step rest (action.ReadFile n d) = Some (read_file w a n d rest)
  act_step rest (action.WriteValue c x) = Some (write_value w a c x rest)
  act_step rest _ = None

  -- a call that always succeeds
  abbrev pub plain_step : List Statement → PlainCall → Step
  plain_step rest (plain.DeleteContext c) = delete w a c rest
  plain_step rest (plain.ReferenceContext c d) = reference w a c d rest
  plain_step rest (plain.ReleaseContext c) = release w a c rest
  plain_step rest (plain.AcquireLock k l) = acquire w a k l rest
  plain_step rest (plain.AcquirePushLockShared l) = acquire_shared w a l rest
  plain_step rest (plain.ReleaseLock k l) = release_lock w a k l rest
  plain_step rest (plain.CompletePendedPreOperation d st) = complete_pre w a p d st rest
  plain_step rest plain.CompletePendedPostOperation = complete_post w a p rest

  -- a call that can fail, which names its routine by its name
  abbrev pub fallible_step : Bool → List Statement → List Statement → FallibleCall Routine → Step
  fallible_step grant granted refused c =
      numbered_step w a grant granted refused (numbered (callbacks_at p (actor_at w a).filter) c)

  -- a test that others see
  abbrev pub test_step : List Statement → List Statement → Test → Option Step
  test_step holds fails test.IsIrp = Some (test_irp w a holds fails)
  test_step holds fails _ = None

  -- a condition that others see
  abbrev pub if_step : Bool → List Statement → List Statement → Condition → Option Step
  if_step grant granted refused (condition.Test x) = test_step granted refused x
  if_step grant granted refused (condition.Succeeds c) = Some (fallible_step grant granted refused c)

  -- the first statement, as it stands before the rest
  abbrev pub statement_step : List Statement → Bool → Statement-F Statement → Option Step
  statement_step rest grant (Statement-F.Act span x) = act_step rest x
  statement_step rest grant (Statement-F.Call span c) = Some (plain_step rest c)
  statement_step rest grant (Statement-F.Return span st) = Some (returns p t w a st)
  statement_step rest grant (Statement-F.If span asked granted refused) = if_step grant (granted ++ rest) (refused ++ rest) asked
  statement_step rest grant (Statement-F.Repeat span turns block) = None

  -- only with a choice that there is
  abbrev pub first_step : List Statement → Bool → Statement-F Statement → Option Step
  first_step rest grant s = if may_go w a grant s then statement_step rest grant s else None

  -- the end of a body is a `return` without a status
  abbrev pub list_step : List Statement → Bool → Option Step
  list_step [] grant = if grant then Some (returns p t w a None) else None
  list_step (s ∷ rest) grant = first_step rest grant (out-Statement s)

  -- an activation that has ended does nothing
  abbrev pub board : Bool → Option Step
  board grant = let act = activation_at w a in if act.ended then None else list_step act.rest grant

  -- the activation is now this, and nothing happened that others see
  abbrev pub moved_on : Activation → Step
  moved_on act = record { world = record w { activations = set w.activations a act }; events = [] }

  -- a local step
  abbrev pub local : Option Step
  local =
      let act = activation_at w a in
      if act.ended then None else option_map moved_on (local_step (actor_at w a).draining act act.rest)

-- the filters, the world and what happened until then, and the transition
abbrev pub step : List Filter → World → List Event → Transition → Option Step
step p w t (Make m) = make p w m
step p w t (Local a) = local p t w a
step p w t (Board a grant) = board p t w a grant
