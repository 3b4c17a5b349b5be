-- What each call, read, test and return leaves to be done: one of the lists that it goes on with, and nothing after a return.
use Rattle.std.proofs.Common.{◌≡◌, ◌≤◌, ℕ, ◌+◌, Bool, true, false, List, [], ◌∷◌, Option, Some, None, refl, arith}
use Rattle.std.proofs.Math.ListN.{set}
use Rattle.std.specs.Prelude.{if◌then◌else◌, is_some}
use Rattle.flt_rules.specs.Held.{holds_lock}
use Rattle.flt_rules.specs.Place.{answers, is_irp}
use Rattle.flt_rules.specs.declared.call.Existing.{Existing}
use Rattle.flt_rules.specs.declared.call.Existing.TheVariants.{Keep, Replace}
use Rattle.flt_rules.specs.declared.call.LockNumber.{LockNumber}
use Rattle.flt_rules.specs.declared.held.Access.{Access}
use Rattle.flt_rules.specs.declared.held.Access.TheVariants.{Exclusive, Shared}
use Rattle.flt_tree.specs.Filter.{context_of}
use Rattle.flt_tree.specs.Measures.{cost}
use Rattle.flt_tree.specs.declared.filter.FallibleCall.{FallibleCall}
use Rattle.flt_tree.specs.declared.filter.FallibleCall.TheVariants as fallible
use Rattle.flt_tree.specs.declared.filter.Filter.{Filter}
use Rattle.flt_tree.specs.declared.filter.PlainCall.{PlainCall}
use Rattle.flt_tree.specs.declared.filter.PlainCall.TheVariants as plain
use Rattle.flt_tree.specs.declared.filter.Routine.{Routine}
use Rattle.flt_tree.specs.declared.filter.Statement.{Statement}
use Rattle.flt_tree.specs.declared.filter.Status.{Status}
use Rattle.flt_tree.specs.declared.variable.Atom.{Atom}
use Rattle.flt_tree.specs.declared.variable.ContextVariable.{ContextVariable}
use Rattle.flt_tree.specs.declared.variable.NumberVariable.{NumberVariable}
use Rattle.flt_tree.specs.declared.variable.OperationVariable.{OperationVariable}
use Rattle.flt_tree.specs.declared.variable.OperationVariable.TheVariants.{Data}
use Rattle.flt_tree.specs.declared.variable.RemovedVariable.{RemovedVariable}
use Rattle.flt_model.specs.declared.event.Event.{Event}
use Rattle.flt_model.specs.Calls.{link_of, allocate, got, get_by, kept, set_there, cannot_set, set_by, unlinked}
use Rattle.flt_model.specs.Calls.{delete_by, deleted, referenced, released, taken, given_up, enqueued, insert_by}
use Rattle.flt_model.specs.Calls.{removed, defer_by, queue_by, complete_by, complete_post_by}
use Rattle.flt_model.specs.Effects.{Step, onward}
use Rattle.flt_model.specs.Program.{callbacks_at, routine_of}
use Rattle.flt_model.specs.Reads.{read_value_of, write_value_of, read_file_of, test_irp_of}
use Rattle.flt_model.specs.Returns.{returned, returns}
use Rattle.flt_model.specs.Steps.{plain_step, fallible_step}
use Rattle.flt_model.specs.Variables.{context_in, operation_in, named_in, with_old}
use Rattle.flt_costs.specs.Costs.{left_in}
use Rattle.flt_model.specs.declared.parts.Entry.{Entry}
use Rattle.flt_model.specs.declared.parts.Link.{Link}
use Rattle.flt_model.specs.World.{World, Activation, activation_at, actor_at, arrival_of}
use Rattle.flt_model.specs.World.{context_at, is_attached, linked_at, presence_at, queue_at}

left_by : (b : Bool) (n : ℕ) → (if b then 0 else n) ≤ n
left_by true n = omega arith
left_by false n = omega arith

-- that is at most what remains, and the end
pub left_below : (act : Activation) → left_in act ≤ cost act.rest + 1
left_below act = left_by act.ended (cost act.rest + 1)

-- these are the world's activations but for one, which may spend at most so much from now on
pub record Leaves (w : World) (a n : ℕ) (acts : List Activation) : Type 0 where
  pub act : Activation
  pub acts_are : acts ≡ set w.activations a act
  pub less : left_in act ≤ n

-- a greater bound is a bound
pub leaves_more : (w : World) (a n k : ℕ) (acts : List Activation) → n ≤ k → Leaves w a n acts → Leaves w a k acts
leaves_more w a n k acts h l = let below = l.less in record { act = l.act; acts_are = l.acts_are; less = omega arith }

-- ---- steps that go on with one of two lists, which cost at most n

module _ (w : World) (a n : ℕ) where
  -- what is left after the step is at most n and the end
  abbrev pub To : Step → Type 0
  To s = Leaves w a (n + 1) s.world.activations

  goes : (act : Activation) → cost act.rest ≤ n → Leaves w a (n + 1) (set w.activations a act)
  goes act h = let below = left_below act in record { act = act; acts_are = refl; less = omega arith }

  if_to : (b : Bool) (r s : Step) → To r → To s → To (if b then r else s)
  if_to true r s h k = h
  if_to false r s h k = k

  abbrev here : Activation
  here = activation_at w a

  abbrev own_filter : ℕ
  own_filter = (actor_at w a).filter

  module _ (rest : List Statement) (h : cost rest ≤ n) where
    goes_old : (old : Option ContextVariable) (x : Option ℕ) → Leaves w a (n + 1) (set w.activations a (with_old (onward w a rest) old x))
    goes_old None x = goes _ h
    goes_old (Some d) x = goes _ h

    -- ---- calls that always succeed

    deleted_to : (x : Option ℕ) → To (deleted w a rest x)
    deleted_to None = goes _ h
    deleted_to (Some x) = if_to (is_some (context_at w.store x).link) _ _ (goes _ h) (goes _ h)

    referenced_to : (d : ContextVariable) (x : Option ℕ) → To (referenced w a d rest x)
    referenced_to d None = goes _ h
    referenced_to d (Some x) = goes _ h

    released_to : (x : Option ℕ) → To (released w a rest x)
    released_to None = goes _ h
    released_to (Some x) = goes _ h

    taken_to : (l : LockNumber) (access : Access) → To (taken w a l access rest)
    taken_to l access = if_to (holds_lock l here.locks) _ _ (goes _ h) (goes _ h)

    given_up_to : (l : LockNumber) → To (given_up w a l rest)
    given_up_to l = if_to (holds_lock l here.locks) _ _ (goes _ h) (goes _ h)

    module _ (p : List Filter) where
      complete_to : (d : OperationVariable) (st : Status) (v : Option ℕ) (c : Option (Option ℕ)) → To (complete_by w a p d st rest v c)
      complete_to d st None c = goes _ h
      complete_to d st (Some v) (Some None) = goes _ h
      complete_to d st (Some v) (Some (Some x)) = goes _ h
      complete_to d st (Some v) None = goes _ h

      complete_post_to : (v : Option ℕ) → To (complete_post_by w a p rest v)
      complete_post_to None = goes _ h
      complete_post_to (Some v) = goes _ h

      -- a call that always succeeds
      pub plain_to : (t : List Event) (c : PlainCall) → To (plain_step p t w a rest c)
      plain_to t (plain.DeleteContext c) = deleted_to (context_in here c)
      plain_to t (plain.ReferenceContext c d) = referenced_to d (context_in here c)
      plain_to t (plain.ReleaseContext c) = released_to (context_in here c)
      plain_to t (plain.AcquireLock k l) = taken_to l Exclusive
      plain_to t (plain.AcquirePushLockShared l) = taken_to l Shared
      plain_to t (plain.ReleaseLock k l) = given_up_to l
      plain_to t (plain.CompletePendedPreOperation d st) = complete_to d st (operation_in here d) (named_in here (context_of st))
      plain_to t plain.CompletePendedPostOperation = complete_post_to (operation_in here Data)

    -- ---- reads

    -- to read a context's value leaves what it goes on with to be done
    pub value_read : (m : NumberVariable) (x : Option ℕ) → To (read_value_of w a m rest x)
    value_read m None = goes _ h
    value_read m (Some x) = goes _ h

    -- to write a context's value leaves what it goes on with to be done
    pub value_written : (value : Atom) (x : Option ℕ) → To (write_value_of w a value rest x)
    value_written value None = goes _ h
    value_written value (Some x) = goes _ h

    -- to read an operation's file leaves what it goes on with to be done
    pub file_read : (m : NumberVariable) (v : Option ℕ) → To (read_file_of w a m rest v)
    file_read m None = goes _ h
    file_read m (Some v) = goes _ h

  -- ---- calls that can fail, and a test

  module _ (granted refused : List Statement) (g : cost granted ≤ n) (r : cost refused ≤ n) where
    tested_by : (b : Bool) → cost (if b then granted else refused) ≤ n
    tested_by true = g
    tested_by false = r

    -- to test an operation's mode leaves one of its two sides to be done
    pub irp_tested : (v : Option ℕ) → To (test_irp_of w a granted refused v)
    irp_tested None = goes _ r
    irp_tested (Some v) = goes _ (tested_by (is_irp (arrival_of w.store v).mode))

    allocate_to : (d : ContextVariable) (grant : Bool) → To (allocate w a d grant granted refused)
    allocate_to d true = goes _ g
    allocate_to d false = goes _ r

    got_to : (d : ContextVariable) (x : Option ℕ) → To (got w a d granted refused x)
    got_to d None = goes _ r
    got_to d (Some x) = goes _ g

    get_by_to : (d : ContextVariable) (l : Option Link) → To (get_by w a d granted refused l)
    get_by_to d None = goes _ r
    get_by_to d (Some l) = got_to d (linked_at w.store l)

    kept_to : (old : Option ContextVariable) (y : ℕ) → To (kept w a old refused y)
    kept_to None y = goes _ r
    kept_to (Some d) y = goes _ r

    there_to : (existing : Existing) (old : Option ContextVariable) (x : ℕ) (l : Link) (y : Option ℕ) →
        To (set_there w a existing old granted refused x l y)
    there_to existing old x l None = goes_old granted g old None
    there_to Keep old x l (Some y) = kept_to old y
    there_to Replace old x l (Some y) = goes_old granted g old (Some y)

    set_to : (existing : Existing) (old : Option ContextVariable) (x : Option ℕ) (l : Option Link) →
        To (set_by w a existing old granted refused x l)
    set_to existing old None l = goes _ r
    set_to existing old (Some x) None = goes _ r
    set_to existing old (Some x) (Some l) =
        if_to (cannot_set w a x) _ _ (goes_old refused r old None) (there_to existing old x l (linked_at w.store l))

    unlinked_to : (old : Option ContextVariable) (y : Option ℕ) → To (unlinked w a old granted refused y)
    unlinked_to old None = goes_old refused r old None
    unlinked_to old (Some y) = goes_old granted g old (Some y)

    delete_by_to : (old : Option ContextVariable) (l : Option Link) → To (delete_by w a old granted refused l)
    delete_by_to old None = goes _ r
    delete_by_to old (Some l) = unlinked_to old (linked_at w.store l)

    enqueued_to : (v : ℕ) (x : Option ℕ) → To (enqueued w a granted refused v x)
    enqueued_to v x = if_to (is_attached (presence_at w.store own_filter)) _ _ (goes _ g) (goes _ r)

    insert_to : (v : Option ℕ) (c : Option (Option ℕ)) → To (insert_by w a granted refused v c)
    insert_to None c = goes _ r
    insert_to (Some v) (Some None) = goes _ r
    insert_to (Some v) (Some (Some x)) = enqueued_to v (Some x)
    insert_to (Some v) None = enqueued_to v None

    removed_to : (o : RemovedVariable) (d : ContextVariable) (queue : List Entry) → To (removed w a o d granted refused queue)
    removed_to o d [] = goes _ r
    removed_to o d (e ∷ queue) = goes _ g

    defer_to : (routine : ℕ) (grant : Bool) (v : Option ℕ) (c : Option (Option ℕ)) → To (defer_by w a routine grant granted refused v c)
    defer_to routine grant None c = goes _ r
    defer_to routine grant (Some v) (Some None) = goes _ r
    defer_to routine grant (Some v) (Some (Some x)) = if_to grant _ _ (goes _ g) (goes _ r)
    defer_to routine grant (Some v) None = if_to grant _ _ (goes _ g) (goes _ r)

    queue_to : (routine : ℕ) (grant : Bool) (c : Option (Option ℕ)) → To (queue_by w a routine grant granted refused c)
    queue_to routine grant (Some None) = goes _ r
    queue_to routine grant (Some (Some x)) = if_to grant _ _ (goes _ g) (goes _ r)
    queue_to routine grant None = if_to grant _ _ (goes _ g) (goes _ r)

    -- a call that can fail
    pub fallible_to : (p : List Filter) (t : List Event) (grant : Bool) (c : FallibleCall Routine) →
        To (fallible_step p t w a grant granted refused c)
    fallible_to p t grant (fallible.AllocateContext d) = allocate_to d grant
    fallible_to p t grant (fallible.GetContext on d) = get_by_to d (link_of w.store own_filter on (operation_in here Data))
    fallible_to p t grant (fallible.SetContext on existing c old) =
        set_to existing old (context_in here c) (link_of w.store own_filter on (operation_in here Data))
    fallible_to p t grant (fallible.DeleteContextOf on old) =
        delete_by_to old (link_of w.store own_filter on (operation_in here Data))
    fallible_to p t grant (fallible.InsertIo c) = insert_to (operation_in here Data) (named_in here c)
    fallible_to p t grant (fallible.RemoveNextIo o d) = removed_to o d (queue_at w.store own_filter)
    fallible_to p t grant (fallible.QueueDeferredIoWorkItem routine c) =
        defer_to (routine_of (callbacks_at p own_filter) routine) grant (operation_in here Data) (named_in here c)
    fallible_to p t grant (fallible.QueueGenericWorkItem routine c) =
        queue_to (routine_of (callbacks_at p own_filter) routine) grant (named_in here c)

-- ---- returns

module _ (p : List Filter) (t : List Event) (w : World) (a n : ℕ) (st : Option Status) where
  returned_leaves : (b : Bool) (v : Option ℕ) → Leaves w a n (returned p t w a st b v).world.activations
  returned_leaves true (Some v) = record { act = _; acts_are = refl; less = omega arith }
  returned_leaves true None = record { act = _; acts_are = refl; less = omega arith }
  returned_leaves false v = record { act = _; acts_are = refl; less = omega arith }

  -- an activation that has returned spends nothing
  pub returns_leaves : Leaves w a n (returns p t w a st).world.activations
  returns_leaves = returned_leaves (answers (actor_at w a).place) (operation_in (activation_at w a) Data)
