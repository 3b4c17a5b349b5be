-- Operations arrive by their own moves alone: no other move, and no step of an activation, changes how many there are.
use Rattle.std.proofs.Common.{◌≡◌, ℕ, zero, suc, ◌+◌, Bool, true, false, List, [], ◌∷◌, ◌++◌}
use Rattle.std.proofs.Common.{length, Option, Some, None, refl, ap, sym, subst, ◌∙◌, arith}
use Rattle.std.proofs.Math.ListN.{set}
use Rattle.std.proofs.lemmas.List.{length-append}
use Rattle.std.proofs.lemmas.List.Sums.{sum_by-cons}
use Rattle.std.specs.Prelude.{cond, ◌&&◌, ◌||◌, not, nat_lt, if◌then◌else◌, is_some, find, replicate, count_by, option_map, option_and_then}
use Rattle.flt_rules.specs.Held.{holds_lock}
use Rattle.flt_rules.specs.Place.{answers, fits_mode}
use Rattle.flt_rules.specs.declared.call.Existing.{Existing}
use Rattle.flt_rules.specs.declared.call.Existing.TheVariants.{Keep, Replace}
use Rattle.flt_rules.specs.declared.call.LockNumber.{LockNumber}
use Rattle.flt_rules.specs.declared.held.Access.{Access}
use Rattle.flt_rules.specs.declared.held.Access.TheVariants.{Exclusive, Shared}
use Rattle.flt_rules.specs.declared.place.Operation.{Operation}
use Rattle.flt_tree.specs.Filter.{context_of}
use Rattle.flt_tree.specs.Variable.{whose}
use Rattle.flt_tree.specs.declared.filter.Action.{Action}
use Rattle.flt_tree.specs.declared.filter.Action.TheVariants as action
use Rattle.flt_tree.specs.declared.filter.Condition.{Condition}
use Rattle.flt_tree.specs.declared.filter.Condition.TheVariants as condition
use Rattle.flt_tree.specs.declared.filter.FallibleCall.{FallibleCall}
use Rattle.flt_tree.specs.declared.filter.FallibleCall.TheVariants as fallible
use Rattle.flt_tree.specs.declared.filter.Filter.{Filter}
use Rattle.flt_tree.specs.declared.filter.PlainCall.{PlainCall}
use Rattle.flt_tree.specs.declared.filter.PlainCall.TheVariants as plain
use Rattle.flt_tree.specs.declared.filter.Routine.{Routine}
use Rattle.flt_tree.specs.declared.filter.Statement.{Statement, out-Statement}
use Rattle.flt_tree.specs.declared.filter.Statement.TheOpen.{Statement-F}
use Rattle.flt_tree.specs.declared.filter.Status.{Status}
use Rattle.flt_tree.specs.declared.filter.Test.{Test}
use Rattle.flt_tree.specs.declared.filter.Test.TheVariants as test
use Rattle.flt_tree.specs.declared.variable.Atom.{Atom}
use Rattle.flt_tree.specs.declared.variable.ContextVariable.{ContextVariable}
use Rattle.flt_tree.specs.declared.variable.NumberVariable.{NumberVariable}
use Rattle.flt_tree.specs.declared.variable.OperationVariable.{OperationVariable}
use Rattle.flt_tree.specs.declared.variable.OperationVariable.TheVariants.{Data}
use Rattle.flt_tree.specs.declared.variable.RemovedVariable.{RemovedVariable}
use Rattle.flt_model.specs.declared.event.Answer.{Answer}
use Rattle.flt_model.specs.declared.event.Answer.TheVariants.{CompletesPre, CompletesPost}
use Rattle.flt_model.specs.declared.event.Event.{Event}
use Rattle.flt_model.specs.declared.moves.JournalEntry.{JournalEntry}
use Rattle.flt_model.specs.declared.moves.JournalEntry.TheVariants as entry
use Rattle.flt_model.specs.declared.moves.Move.{Move}
use Rattle.flt_model.specs.declared.moves.Move.TheVariants.{Arrive, Pre, Skip, Lower, Post, Cancel, Canceled}
use Rattle.flt_model.specs.declared.moves.Move.TheVariants.{Work, Detach, Drain, Unlink, Detached}
use Rattle.flt_model.specs.Calls.{link_of, allocate, got, get_by, kept, set_there, cannot_set, set_by, unlinked}
use Rattle.flt_model.specs.Calls.{delete_by, deleted, referenced, released, taken, given_up, enqueued, insert_by}
use Rattle.flt_model.specs.Calls.{removed, defer_by, queue_by, completed, complete_by, complete_post_by}
use Rattle.flt_model.specs.Effects.{Step, after_unlink}
use Rattle.flt_model.specs.Expansion.{expansion, expand}
use Rattle.flt_model.specs.LocalSteps.{local_step}
use Rattle.flt_model.specs.Moves.{calls_pre, pre_at, skip_at, lower_at, last_frame, pre_of, post_of, post_by, post_at, is_done}
use Rattle.flt_model.specs.Moves.{is_entry_of, canceled_by, work_of, work_by, is_frame_of, drain_by, unlink_by, is_drained, make}
use Rattle.flt_model.specs.Program.{callbacks_at, filter_of, routine_of}
use Rattle.flt_model.specs.Reads.{put_value, read_value, write_value, read_file, test_irp}
use Rattle.flt_model.specs.Reads.{read_value_of, write_value_of, read_file_of, test_irp_of}
use Rattle.flt_model.specs.Returns.{returned, returns}
use Rattle.flt_model.specs.Runs.{Moment, after, next, run_from, start}
use Rattle.flt_model.specs.declared.settling.Way.{Way}
use Rattle.flt_model.specs.Settling.{way_of, is_led, lead, settles_visit, settled_by}
use Rattle.flt_model.specs.Steps.{Transition, Make, Local, Board, may_go, act_step, plain_step, fallible_step}
use Rattle.flt_model.specs.Steps.{test_step, if_step, statement_step, list_step, board, moved_on, local}
use Rattle.flt_model.specs.Variables.{context_in, operation_in, named_in, atom_value}
use Rattle.flt_model.specs.declared.parts.Arrival.{Arrival}
use Rattle.flt_model.specs.declared.parts.Entry.{Entry}
use Rattle.flt_model.specs.declared.parts.Item.{Item}
use Rattle.flt_model.specs.declared.parts.Link.{Link}
use Rattle.flt_model.specs.declared.parts.Position.{Position}
use Rattle.flt_model.specs.declared.parts.Position.TheVariants.{Down, Visiting, Up}
use Rattle.flt_model.specs.World.{World, Store, Activation, Frame}
use Rattle.flt_model.specs.World.{Route, activation_at, actor_at, arrival_at, arrival_of, context_at, is_attached}
use Rattle.flt_model.specs.World.{is_detaching, is_freed, item_at, linked_at, presence_at, queue_at, route_at}
use Rattle.flt_stack_core.specs.Receipts.{is_arrival}

-- ---- stores that have the same operations

module _ (s : Store) where
  abbrev Same : Store → Type 0
  Same t = t.arrivals ≡ s.arrivals

  if_same : (b : Bool) (r t : Store) → Same r → Same t → Same (if b then r else t)
  if_same true r t h k = h
  if_same false r t h k = k

  unlink_same : (x : ℕ) (old : Option ContextVariable) → Same (after_unlink s x old)
  unlink_same x None = refl
  unlink_same x (Some d) = refl

  lead_same : (v : ℕ) (x : Option ℕ) (way : Way) → Same (lead s v x way)
  lead_same v x way = if_same (is_led s v) _ _ refl refl

  settled_same : (v : ℕ) (x : Option ℕ) (way : Way) → Same (settled_by s v x way)
  settled_same v x way =
      if_same (settles_visit way) (record (lead s v x way) { settled = set (lead s v x way).settled v true }) s
      (lead_same v x way) refl

-- ---- steps of activations

module _ (w : World) (a : ℕ) where
  -- the step leaves the operations as they are
  abbrev To : Step → Type 0
  To s = Same w.store s.world.store

  if_to : (b : Bool) (r s : Step) → To r → To s → To (if b then r else s)
  if_to true r s h k = h
  if_to false r s h k = k

  some_to : (r s : Step) → To r → Some r ≡ Some s → To s
  some_to r s h e = let equal : r ≡ s = cc in subst (λ (x : Step). To x) equal h

  when_to : (b : Bool) (o : Option Step) (s : Step) → (o ≡ Some s → To s) → (if b then o else None) ≡ Some s → To s
  when_to true o s h e = h e
  when_to false o s h e = absurd (cc)

  unless_to : (b : Bool) (o : Option Step) (s : Step) → (o ≡ Some s → To s) → (if b then None else o) ≡ Some s → To s
  unless_to true o s h e = absurd (cc)
  unless_to false o s h e = h e

  abbrev here : Activation
  here = activation_at w a

  abbrev own_filter : ℕ
  own_filter = (actor_at w a).filter

  module _ (rest : List Statement) where
    deleted_to : (x : Option ℕ) → To (deleted w a rest x)
    deleted_to None = refl
    deleted_to (Some x) = if_to (is_some (context_at w.store x).link) _ _ refl refl

    referenced_to : (d : ContextVariable) (x : Option ℕ) → To (referenced w a d rest x)
    referenced_to d None = refl
    referenced_to d (Some x) = refl

    released_to : (x : Option ℕ) → To (released w a rest x)
    released_to None = refl
    released_to (Some x) = refl

    taken_to : (l : LockNumber) (access : Access) → To (taken w a l access rest)
    taken_to l access = if_to (holds_lock l here.locks) _ _ refl refl

    given_up_to : (l : LockNumber) → To (given_up w a l rest)
    given_up_to l = if_to (holds_lock l here.locks) _ _ refl refl

    value_read : (m : NumberVariable) (x : Option ℕ) → To (read_value_of w a m rest x)
    value_read m None = refl
    value_read m (Some x) = refl

    value_written : (value : Atom) (x : Option ℕ) → To (write_value_of w a value rest x)
    value_written value None = refl
    value_written value (Some x) = if_same w.store (is_freed (context_at w.store x)) _ _ refl refl

    file_read : (m : NumberVariable) (v : Option ℕ) → To (read_file_of w a m rest v)
    file_read m None = refl
    file_read m (Some v) = refl

    module _ (p : List Filter) where
      completed_to : (v : ℕ) (x : Option ℕ) (answer : Answer) → To (completed w a p rest v x answer)
      completed_to v x answer = settled_same w.store v x (way_of p w.store v answer)

      complete_to : (d : OperationVariable) (st : Status) (v : Option ℕ) (c : Option (Option ℕ)) → To (complete_by w a p d st rest v c)
      complete_to d st None c = refl
      complete_to d st (Some v) (Some None) = refl
      complete_to d st (Some v) (Some (Some x)) = completed_to v (Some x) (CompletesPre (whose d) v st)
      complete_to d st (Some v) None = completed_to v None (CompletesPre (whose d) v st)

      complete_post_to : (v : Option ℕ) → To (complete_post_by w a p rest v)
      complete_post_to None = refl
      complete_post_to (Some v) = completed_to v None (CompletesPost v)

      plain_to : (t : List Event) (c : PlainCall) → To (plain_step p t w a rest c)
      plain_to t (plain.DeleteContext c) = deleted_to (context_in here c)
      plain_to t (plain.ReferenceContext c d) = referenced_to d (context_in here c)
      plain_to t (plain.ReleaseContext c) = released_to (context_in here c)
      plain_to t (plain.AcquireLock k l) = taken_to l Exclusive
      plain_to t (plain.AcquirePushLockShared l) = taken_to l Shared
      plain_to t (plain.ReleaseLock k l) = given_up_to l
      plain_to t (plain.CompletePendedPreOperation d st) = complete_to d st (operation_in here d) (named_in here (context_of st))
      plain_to t plain.CompletePendedPostOperation = complete_post_to (operation_in here Data)

  module _ (granted refused : List Statement) where
    irp_tested : (v : Option ℕ) → To (test_irp_of w a granted refused v)
    irp_tested None = refl
    irp_tested (Some v) = refl

    allocate_to : (d : ContextVariable) (grant : Bool) → To (allocate w a d grant granted refused)
    allocate_to d true = refl
    allocate_to d false = refl

    got_to : (d : ContextVariable) (x : Option ℕ) → To (got w a d granted refused x)
    got_to d None = refl
    got_to d (Some x) = refl

    get_by_to : (d : ContextVariable) (l : Option Link) → To (get_by w a d granted refused l)
    get_by_to d None = refl
    get_by_to d (Some l) = got_to d (linked_at w.store l)

    kept_to : (old : Option ContextVariable) (y : ℕ) → To (kept w a old refused y)
    kept_to None y = refl
    kept_to (Some d) y = refl

    there_to : (existing : Existing) (old : Option ContextVariable) (x : ℕ) (l : Link) (y : Option ℕ) →
        To (set_there w a existing old granted refused x l y)
    there_to existing old x l None = refl
    there_to Keep old x l (Some y) = kept_to old y
    there_to Replace None x l (Some y) = refl
    there_to Replace (Some d) x l (Some y) = refl

    set_to : (existing : Existing) (old : Option ContextVariable) (x : Option ℕ) (l : Option Link) →
        To (set_by w a existing old granted refused x l)
    set_to existing old None l = refl
    set_to existing old (Some x) None = refl
    set_to existing old (Some x) (Some l) = if_to (cannot_set w a x) _ _ refl (there_to existing old x l (linked_at w.store l))

    unlinked_to : (old : Option ContextVariable) (y : Option ℕ) → To (unlinked w a old granted refused y)
    unlinked_to old None = refl
    unlinked_to old (Some y) = unlink_same w.store y old

    delete_by_to : (old : Option ContextVariable) (l : Option Link) → To (delete_by w a old granted refused l)
    delete_by_to old None = refl
    delete_by_to old (Some l) = unlinked_to old (linked_at w.store l)

    enqueued_to : (v : ℕ) (x : Option ℕ) → To (enqueued w a granted refused v x)
    enqueued_to v x = if_to (is_attached (presence_at w.store own_filter)) _ _ refl refl

    insert_to : (v : Option ℕ) (c : Option (Option ℕ)) → To (insert_by w a granted refused v c)
    insert_to None c = refl
    insert_to (Some v) (Some None) = refl
    insert_to (Some v) (Some (Some x)) = enqueued_to v (Some x)
    insert_to (Some v) None = enqueued_to v None

    removed_to : (o : RemovedVariable) (d : ContextVariable) (queue : List Entry) → To (removed w a o d granted refused queue)
    removed_to o d [] = refl
    removed_to o d (e ∷ queue) = refl

    defer_to : (routine : ℕ) (grant : Bool) (v : Option ℕ) (c : Option (Option ℕ)) → To (defer_by w a routine grant granted refused v c)
    defer_to routine grant None c = refl
    defer_to routine grant (Some v) (Some None) = refl
    defer_to routine grant (Some v) (Some (Some x)) = if_to grant _ _ refl refl
    defer_to routine grant (Some v) None = if_to grant _ _ refl refl

    queue_to : (routine : ℕ) (grant : Bool) (c : Option (Option ℕ)) → To (queue_by w a routine grant granted refused c)
    queue_to routine grant (Some None) = refl
    queue_to routine grant (Some (Some x)) = if_to grant _ _ refl refl
    queue_to routine grant None = if_to grant _ _ refl refl

    fallible_to : (p : List Filter) (t : List Event) (grant : Bool) (c : FallibleCall Routine) →
        To (fallible_step p t w a grant granted refused c)
    fallible_to p t grant (fallible.AllocateContext d) = allocate_to d grant
    fallible_to p t grant (fallible.GetContext on d) = get_by_to d (link_of w.store own_filter on (operation_in here Data))
    fallible_to p t grant (fallible.SetContext on existing c old) =
        set_to existing old (context_in here c) (link_of w.store own_filter on (operation_in here Data))
    fallible_to p t grant (fallible.DeleteContextOf on old) =
        delete_by_to old (link_of w.store own_filter on (operation_in here Data))
    fallible_to p t grant (fallible.InsertIo c) = insert_to (operation_in here Data) (named_in here c)
    fallible_to p t grant (fallible.RemoveNextIo o d) = removed_to o d (queue_at w.store own_filter)
    fallible_to p t grant (fallible.QueueDeferredIoWorkItem routine c) =
        defer_to (routine_of (callbacks_at p own_filter) routine) grant (operation_in here Data) (named_in here c)
    fallible_to p t grant (fallible.QueueGenericWorkItem routine c) =
        queue_to (routine_of (callbacks_at p own_filter) routine) grant (named_in here c)

  module _ (p : List Filter) (t : List Event) where
    returned_to : (st : Option Status) (b : Bool) (v : Option ℕ) → To (returned p t w a st b v)
    returned_to st true (Some v) = settled_same w.store v _ _
    returned_to st true None = refl
    returned_to st false v = refl

    returns_to : (st : Option Status) → To (returns p t w a st)
    returns_to st = returned_to st (answers (actor_at w a).place) (operation_in here Data)

    act_to : (rest : List Statement) (x : Action) (s : Step) → act_step p t w a rest x ≡ Some s → To s
    act_to rest (action.ReadValue n c) s e = some_to (read_value w a n c rest) s (value_read rest n (context_in here c)) e
    act_to rest (action.ReadFile n d) s e = some_to (read_file w a n d rest) s (file_read rest n (operation_in here d)) e
    act_to rest (action.WriteValue c x) s e = some_to (write_value w a c x rest) s (value_written rest x (context_in here c)) e
    act_to rest (action.SetNumber n x) s e = absurd (cc)
    act_to rest (action.ClearContext c) s e = absurd (cc)
    act_to rest (action.ClearOperation o) s e = absurd (cc)

    test_to : (granted refused : List Statement) (x : Test) (s : Step) → test_step p t w a granted refused x ≡ Some s → To s
    test_to granted refused test.IsIrp s e =
        some_to (test_irp w a granted refused) s (irp_tested granted refused (operation_in here Data)) e
    test_to granted refused (test.ContextIsSome c) s e = absurd (cc)
    test_to granted refused (test.OperationIsSome o) s e = absurd (cc)
    test_to granted refused (test.Equal m x) s e = absurd (cc)
    test_to granted refused (test.Less m x) s e = absurd (cc)
    test_to granted refused test.IsDraining s e = absurd (cc)

    condition_to : (granted refused : List Statement) (grant : Bool) (asked : Condition) (s : Step) →
        if_step p t w a grant granted refused asked ≡ Some s → To s
    condition_to granted refused grant (condition.Test x) s e = test_to granted refused x s e
    condition_to granted refused grant (condition.Succeeds c) s e =
        some_to (fallible_step p t w a grant granted refused c) s (fallible_to granted refused p t grant c) e

    statement_to : (rest : List Statement) (grant : Bool) (layer : Statement-F Statement) (s : Step) →
        statement_step p t w a rest grant layer ≡ Some s → To s
    statement_to rest grant (Statement-F.Act span x) s e = act_to rest x s e
    statement_to rest grant (Statement-F.Call span c) s e = some_to (plain_step p t w a rest c) s (plain_to rest p t c) e
    statement_to rest grant (Statement-F.Return span st) s e = some_to (returns p t w a st) s (returns_to st) e
    statement_to rest grant (Statement-F.If span asked granted refused) s e =
        condition_to (granted ++ rest) (refused ++ rest) grant asked s e
    statement_to rest grant (Statement-F.Repeat span turns block) s e = absurd (cc)

    list_to : (list : List Statement) (grant : Bool) (s : Step) → list_step p t w a list grant ≡ Some s → To s
    list_to [] grant s e = when_to grant (Some (returns p t w a None)) s (λ h. some_to (returns p t w a None) s (returns_to None) h) e
    list_to (x ∷ rest) grant s e =
        when_to (may_go w a grant (out-Statement x)) (statement_step p t w a rest grant (out-Statement x)) s
        (λ h. statement_to rest grant (out-Statement x) s h) e

    board_to : (grant : Bool) (s : Step) → board p t w a grant ≡ Some s → To s
    board_to grant s e = unless_to here.ended (list_step p t w a here.rest grant) s (λ h. list_to here.rest grant s h) e

    moved_to : (o : Option Activation) (s : Step) → option_map (moved_on p t w a) o ≡ Some s → To s
    moved_to None s e = absurd (cc)
    moved_to (Some act) s e = some_to (moved_on p t w a act) s refl e

    local_to : (s : Step) → local p t w a ≡ Some s → To s
    local_to s e =
        let o = local_step (actor_at w a).draining here here.rest in
        unless_to here.ended (option_map (moved_on p t w a) o) s (λ h. moved_to o s h) e

-- ---- moves

-- how many operations arrive by a transition
abbrev arriving : Transition → ℕ
arriving (Make move) = if is_arrival (entry.Move move) then 1 else 0
arriving (Local a) = 0
arriving (Board a grant) = 0

module _ (p : List Filter) (w : World) where
  -- so many operations arrive by the step
  abbrev Come : ℕ → Step → Type 0
  Come n s = length s.world.store.arrivals ≡ length w.store.arrivals + n

  some_come : (n : ℕ) (r s : Step) → Come n r → Some r ≡ Some s → Come n s
  some_come n r s h e = let equal : r ≡ s = cc in subst (λ (x : Step). Come n x) equal h

  when_come : (n : ℕ) (b : Bool) (o : Option Step) (s : Step) → (o ≡ Some s → Come n s) → (if b then o else None) ≡ Some s → Come n s
  when_come n true o s h e = h e
  when_come n false o s h e = absurd (cc)

  unless_come : (n : ℕ) (b : Bool) (o : Option Step) (s : Step) → (o ≡ Some s → Come n s) → (if b then None else o) ≡ Some s → Come n s
  unless_come n true o s h e = absurd (cc)
  unless_come n false o s h e = h e

  -- a step that keeps the operations
  none_come : (r s : Step) → Same w.store r.world.store → Some r ≡ Some s → Come 0 s
  none_come r s h e = some_come 0 r s (let long = ap (λ (xs : List Arrival). length xs) h in omega (arith, long)) e

  pre_come : (o : ℕ) (kind : Operation) (at : Position) (s : Step) → pre_at p w o kind at ≡ Some s → Come 0 s
  pre_come o kind (Down f) s e =
      when_come 0 (nat_lt f (length p) && calls_pre p w.store f kind) _ s (λ k. none_come (pre_of p w o kind f) s refl k) e
  pre_come o kind Visiting s e = absurd (cc)
  pre_come o kind Up s e = absurd (cc)

  skip_come : (o : ℕ) (kind : Operation) (at : Position) (s : Step) → skip_at p w o kind at ≡ Some s → Come 0 s
  skip_come o kind (Down f) s e =
      when_come 0 (nat_lt f (length p) && not (calls_pre p w.store f kind)) _ s (λ k. none_come _ s refl k) e
  skip_come o kind Visiting s e = absurd (cc)
  skip_come o kind Up s e = absurd (cc)

  lower_come : (o : ℕ) (at : Position) (s : Step) → lower_at p w o at ≡ Some s → Come 0 s
  lower_come o (Down f) s e = unless_come 0 (nat_lt f (length p)) _ s (λ k. none_come _ s refl k) e
  lower_come o Visiting s e = absurd (cc)
  lower_come o Up s e = absurd (cc)

  frame_come : (o : ℕ) (route : Route) (frame : Option Frame) (s : Step) → post_by p w o route frame ≡ Some s → Come 0 s
  frame_come o route None s e = absurd (cc)
  frame_come o route (Some frame) s e = none_come (post_of p w o frame false _) s refl e

  post_come : (o : ℕ) (route : Route) (at : Position) (s : Step) → post_at p w o route at ≡ Some s → Come 0 s
  post_come o route Up s e = frame_come o route (last_frame route.frames) s e
  post_come o route (Down f) s e = absurd (cc)
  post_come o route Visiting s e = absurd (cc)

  entry_come : (f o : ℕ) (found : Option Entry) (s : Step) → canceled_by p w f o found ≡ Some s → Come 0 s
  entry_come f o None s e = absurd (cc)
  entry_come f o (Some found) s e = none_come _ s refl e

  item_come : (i : ℕ) (item : Option Item) (s : Step) → work_by p w i item ≡ Some s → Come 0 s
  item_come i None s e = absurd (cc)
  item_come i (Some item) s e = none_come (work_of p w i item) s refl e

  drain_come : (f o : ℕ) (frame : Option Frame) (s : Step) → drain_by p w f o frame ≡ Some s → Come 0 s
  drain_come f o None s e = absurd (cc)
  drain_come f o (Some frame) s e = none_come (post_of p w o frame true _) s refl e

  unlink_come : (x : Option ℕ) (s : Step) → unlink_by w x ≡ Some s → Come 0 s
  unlink_come None s e = absurd (cc)
  unlink_come (Some x) s e = none_come _ s refl e

  make_come : (x : Move) (s : Step) → make p w x ≡ Some s → Come (arriving (Make x)) s
  make_come (Arrive kind mode file) s e =
      when_come 1 (fits_mode kind mode && nat_lt file 1024) _ s
      (λ k. some_come 1 _ s (length-append w.store.arrivals (record { kind = kind; mode = mode; file = file } ∷ [])) k) e
  make_come (Pre o) s e = pre_come o (arrival_at w.store o).kind (route_at w.store o).position s e
  make_come (Skip o) s e = skip_come o (arrival_at w.store o).kind (route_at w.store o).position s e
  make_come (Lower o) s e = lower_come o (route_at w.store o).position s e
  make_come (Post o) s e = post_come o (route_at w.store o) (route_at w.store o).position s e
  make_come (Cancel o) s e = unless_come 0 (is_done w.store o || (route_at w.store o).cancelled) _ s (λ k. none_come _ s refl k) e
  make_come (Canceled altitude o) s e =
      let f = filter_of p altitude in
      let found = find (is_entry_of w.store o) (queue_at w.store f) in
      when_come 0 ((route_at w.store o).cancelled || is_detaching (presence_at w.store f)) (canceled_by p w f o found) s
      (λ k. entry_come f o found s k) e
  make_come (Work i) s e = item_come i (item_at w.store i) s e
  make_come (Detach altitude) s e =
      when_come 0 (is_attached (presence_at w.store (filter_of p altitude))) _ s (λ k. none_come _ s refl k) e
  make_come (Drain altitude o) s e =
      let f = filter_of p altitude in
      let frame = find (is_frame_of f) (route_at w.store o).frames in
      when_come 0 (is_detaching (presence_at w.store f)) (drain_by p w f o frame) s (λ k. drain_come f o frame s k) e
  make_come (Unlink altitude key) s e =
      let f = filter_of p altitude in
      let x = linked_at w.store (record { filter = f; key = key }) in
      when_come 0 (is_detaching (presence_at w.store f)) (unlink_by w x) s (λ k. unlink_come x s k) e
  make_come (Detached altitude) s e =
      let f = filter_of p altitude in
      when_come 0 (is_detaching (presence_at w.store f) && is_drained w f) _ s (λ k. none_come _ s refl k) e

-- ---- runs

abbrev arrivals_by : List Transition → ℕ
arrivals_by [] = 0
arrivals_by (x ∷ xs) = arriving x + arrivals_by xs

arrivals_append : (xs ys : List Transition) → arrivals_by (xs ++ ys) ≡ arrivals_by xs + arrivals_by ys
arrivals_append [] ys = omega arith
arrivals_append (x ∷ xs) ys = omega (arith, arrivals_append xs ys)

kept_come : (w : World) (s : Step) → Same w.store s.world.store → length s.world.store.arrivals ≡ length w.store.arrivals + 0
kept_come w s h = let long = ap (λ (xs : List Arrival). length xs) h in omega (arith, long)

step_comes : (p : List Filter) (m : Moment) (s : Step) (x : Transition) → next p m x ≡ Some s →
    length s.world.store.arrivals ≡ length m.world.store.arrivals + arriving x
step_comes p m s (Make move) e = make_come p m.world move s e
step_comes p m s (Local b) e = kept_come m.world s (local_to m.world b p m.trace s e)
step_comes p m s (Board b grant) e = kept_come m.world s (board_to m.world b p m.trace grant s e)

run_comes : (p : List Filter) (m n : Moment) (xs : List Transition) → run_from p m xs ≡ Some n →
    length n.world.store.arrivals ≡ length m.world.store.arrivals + arrivals_by xs
run_comes p m n [] e = let equal : m ≡ n = cc in let long = ap (λ (k : Moment). length k.world.store.arrivals) equal in omega (arith, long)
run_comes p m n (x ∷ xs) e = by (next p m x) refl e (λ s h. run_comes p (after m s) n xs h)
  where
    by : (o : Option Step) → next p m x ≡ o → option_and_then (λ s. run_from p (after m s) xs) o ≡ Some n →
        ((s : Step) → run_from p (after m s) xs ≡ Some n →
        length n.world.store.arrivals ≡ length s.world.store.arrivals + arrivals_by xs) →
        length n.world.store.arrivals ≡ length m.world.store.arrivals + arrivals_by (x ∷ xs)
    by None is h ih = absurd (cc)
    by (Some s) is h ih = omega (arith, step_comes p m s x is, ih s h)

-- ---- entries

no_arrivals : (a n : ℕ) → arrivals_by (replicate n (Local a)) ≡ 0
no_arrivals a zero = refl
no_arrivals a (suc n) = omega (arith, no_arrivals a n)

entry_arrivals : (e : JournalEntry) (xs : List Transition) → expansion e ≡ Some xs → arrivals_by xs ≡ (if is_arrival e then 1 else 0)
entry_arrivals (entry.Move move) xs h =
    let equal : Make move ∷ [] ≡ xs = cc in
    subst (λ (ys : List Transition). arrivals_by ys ≡ (if is_arrival (entry.Move move) then 1 else 0)) equal (omega arith)
entry_arrivals (entry.Go b zero grant) xs h = absurd (cc)
entry_arrivals (entry.Go b (suc n) grant) xs h =
    let equal : replicate n (Local b) ++ Board b grant ∷ [] ≡ xs = cc in
    subst (λ (ys : List Transition). arrivals_by ys ≡ 0) equal
    (arrivals_append (replicate n (Local b)) (Board b grant ∷ []) ∙ ap (λ k. k + 0) (no_arrivals b n))

counted : (b : Bool) (n : ℕ) → cond b 1 0 + n ≡ (if b then 1 else 0) + n
counted true n = refl
counted false n = refl

entries_arrivals : (es : List JournalEntry) (xs : List Transition) → expand es ≡ Some xs → arrivals_by xs ≡ count_by is_arrival es
entries_arrivals [] xs h = let equal : [] ≡ xs = cc in subst (λ (ys : List Transition). arrivals_by ys ≡ 0) equal refl
entries_arrivals (e ∷ es) xs h = by (expansion e) (expand es) refl refl h (λ ys k. entries_arrivals es ys k)
  where
    by : (f b : Option (List Transition)) → expansion e ≡ f → expand es ≡ b →
        option_and_then (λ xs. option_map (λ ys. xs ++ ys) b) f ≡ Some xs →
        ((ys : List Transition) → expand es ≡ Some ys → arrivals_by ys ≡ count_by is_arrival es) →
        arrivals_by xs ≡ count_by is_arrival (e ∷ es)
    by None b is others k ih = absurd (cc)
    by (Some front) None is others k ih = absurd (cc)
    by (Some front) (Some back) is others k ih =
        let equal : front ++ back ≡ xs = cc in
        let first = entry_arrivals e front is in
        let rest = ih back others in
        subst (λ (ys : List Transition). arrivals_by ys ≡ count_by is_arrival (e ∷ es)) equal
        (arrivals_append front back ∙ omega (arith, first, rest) ∙ sym (counted (is_arrival e) (count_by is_arrival es))
        ∙ sym (sum_by-cons (λ (x : JournalEntry). cond (is_arrival x) 1 0) e es))

-- where a journal leads there are as many operations as arrived by it
pub run_arrives : (p : List Filter) (es : List JournalEntry) (xs : List Transition) (m : Moment) → expand es ≡ Some xs →
    run_from p (start p) xs ≡ Some m → length m.world.store.arrivals ≡ count_by is_arrival es
run_arrives p es xs m h r = omega (arith, run_comes p (start p) m xs r, entries_arrivals es xs h)
