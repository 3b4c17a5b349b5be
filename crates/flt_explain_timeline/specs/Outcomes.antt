-- Whether a call succeeded or a test held: what is looked at before the step, and what it shows after it. This project's own definitions.
use Rattle.std.specs.Prelude.{ℕ, ◌+◌, Bool, false, nat_lt, if◌then◌else◌, List, [], ◌∷◌, length, Option, Some, None, is_some, sum_by}
use Rattle.flt_rules.specs.Place.{is_irp}
use Rattle.flt_tree.specs.declared.filter.Condition.{Condition}
use Rattle.flt_tree.specs.declared.filter.Condition.TheVariants as condition
use Rattle.flt_tree.specs.declared.filter.FallibleCall.{FallibleCall}
use Rattle.flt_tree.specs.declared.filter.FallibleCall.TheVariants as fallible
use Rattle.flt_tree.specs.declared.filter.Routine.{Routine}
use Rattle.flt_tree.specs.declared.filter.Statement.{Statement, out-Statement}
use Rattle.flt_tree.specs.declared.filter.Statement.TheOpen.{Statement-F}
use Rattle.flt_tree.specs.declared.filter.Test.{Test}
use Rattle.flt_tree.specs.declared.filter.Test.TheVariants as test
use Rattle.flt_tree.specs.declared.variable.OperationVariable.TheVariants.{Data, Removed}
use Rattle.flt_model.specs.Calls.{link_of}
use Rattle.flt_model.specs.Variables.{context_in, operation_in}
use Rattle.flt_model.specs.Violations.{in_queue, in_item}
use Rattle.flt_model.specs.declared.parts.Link.{Link}
use Rattle.flt_model.specs.World.{World, Store, activation_at, actor_at, arrival_of, context_at, linked_at}
use Rattle.flt_explain_timeline.specs.declared.outcome.Sign.{Sign}
use Rattle.flt_explain_timeline.specs.declared.outcome.Sign.TheVariants as signs

-- how often a visit waits, in queues and in work items
abbrev pub waits : Store → ℕ → ℕ
waits s v = sum_by (in_queue v) s.queues + sum_by (in_item v) s.items

-- whether a context is linked
abbrev pub is_linked : Store → ℕ → Bool
is_linked s x = is_some (context_at s x).link

-- whether a context is linked there, if that is somewhere
abbrev pub is_there : Store → Option Link → Bool
is_there s None = false
is_there s (Some link) = is_some (linked_at s link)

-- whether an operation that may be NULL is an I/O request packet
abbrev pub is_packet : Store → Option ℕ → Bool
is_packet s None = false
is_packet s (Some v) = is_irp (arrival_of s v).mode

-- ---- before the step

-- a set succeeds where the context, which wasn't linked, is linked by it
abbrev pub sign_of_set : Store → Option ℕ → Sign
sign_of_set s None = signs.Is false
sign_of_set s (Some x) = if is_linked s x then signs.Is false else signs.Links x

-- an insert succeeds where the operation waits more often by it
abbrev pub sign_of_insert : Store → Option ℕ → Sign
sign_of_insert s None = signs.Is false
sign_of_insert s (Some v) = signs.Waits v (waits s v)

module _ (w : World) (a : ℕ) (grant : Bool) where
  -- the operation of the callback
  abbrev given : Option ℕ
  given = operation_in (activation_at w a) Data

  -- an allocation succeeds where the system grants it; a get and a removal by what their variables name; a set and an insert as above; a
  -- delete where a context is linked there; a work item where there is one more
  abbrev pub sign_of_call : FallibleCall Routine → Sign
  sign_of_call (fallible.AllocateContext d) = signs.Is grant
  sign_of_call (fallible.GetContext on d) = signs.Gives d
  sign_of_call (fallible.SetContext on existing c old) = sign_of_set w.store (context_in (activation_at w a) c)
  sign_of_call (fallible.DeleteContextOf on old) = signs.Is (is_there w.store (link_of w.store (actor_at w a).filter on given))
  sign_of_call (fallible.InsertIo c) = sign_of_insert w.store given
  sign_of_call (fallible.RemoveNextIo o d) = signs.Removes o
  sign_of_call (fallible.QueueDeferredIoWorkItem r c) = signs.Adds (length w.store.items)
  sign_of_call (fallible.QueueGenericWorkItem r c) = signs.Adds (length w.store.items)

  -- of the tests only `irp data` is seen by others
  abbrev pub sign_of_test : Test → Option Sign
  sign_of_test test.IsIrp = Some (signs.Is (is_packet w.store given))
  sign_of_test _ = None

  -- what an `if` asks
  abbrev pub sign_of_condition : Condition → Option Sign
  sign_of_condition (condition.Succeeds call) = Some (sign_of_call call)
  sign_of_condition (condition.Test asked) = sign_of_test asked

  -- what shows how a statement comes out; none where it can come out in one way alone
  abbrev pub sign_of_statement : Statement-F Statement → Option Sign
  sign_of_statement (Statement-F.If span asked granted refused) = sign_of_condition asked
  sign_of_statement _ = None

  -- the same of the first of the statements that remain
  abbrev pub sign_of : List Statement → Option Sign
  sign_of [] = None
  sign_of (s ∷ rest) = sign_of_statement (out-Statement s)

-- ---- after the step

-- whether it shows in this world
abbrev pub shows : World → ℕ → Sign → Bool
shows w a (signs.Is known) = known
shows w a (signs.Gives d) = is_some (context_in (activation_at w a) d)
shows w a (signs.Removes o) = is_some (operation_in (activation_at w a) (Removed o))
shows w a (signs.Links x) = is_linked w.store x
shows w a (signs.Waits v before) = nat_lt before (waits w.store v)
shows w a (signs.Adds before) = nat_lt before (length w.store.items)
