-- What each call of the driver kit does, and what it does where it is used wrongly: a variable that is NULL where an object is
-- needed leaves all as it is, and a call that can fail then fails; what isn't held is handed over all the same.
-- A call that can fail goes on by the first list where it succeeds, by the second otherwise; outputs that it doesn't give
-- become NULL.
use Rattle.std.specs.Prelude.{ℕ, Bool, not, ◌||◌, if◌then◌else◌, List, [], ◌∷◌, ◌++◌, length, Option, Some, None, is_some}
use Rattle.flt_rules.specs.Held.{held, holds_lock, without_last}
use Rattle.flt_rules.specs.declared.call.Anchor.{Anchor}
use Rattle.flt_rules.specs.declared.call.Anchor.TheVariants as anchor
use Rattle.flt_rules.specs.declared.call.Call.TheVariants as call
use Rattle.flt_rules.specs.declared.call.Existing.{Existing}
use Rattle.flt_rules.specs.declared.call.Existing.TheVariants.{Keep, Replace}
use Rattle.flt_rules.specs.declared.call.LockKind.{LockKind}
use Rattle.flt_rules.specs.declared.call.LockNumber.{LockNumber}
use Rattle.flt_rules.specs.declared.held.Access.{Access}
use Rattle.flt_rules.specs.declared.held.Access.TheVariants.{Exclusive, Shared}
use Rattle.flt_tree.specs.Filter.{context_of}
use Rattle.flt_tree.specs.Variable.{whose}
use Rattle.flt_tree.specs.declared.filter.Filter.{Filter}
use Rattle.flt_tree.specs.declared.filter.Statement.{Statement}
use Rattle.flt_tree.specs.declared.filter.Status.{Status}
use Rattle.flt_tree.specs.declared.variable.ContextVariable.{ContextVariable}
use Rattle.flt_tree.specs.declared.variable.OperationVariable.{OperationVariable}
use Rattle.flt_tree.specs.declared.variable.OperationVariable.TheVariants.{Removed, Data}
use Rattle.flt_tree.specs.declared.variable.RemovedVariable.{RemovedVariable}
use Rattle.flt_model.specs.declared.event.Answer.{Answer}
use Rattle.flt_model.specs.declared.event.Answer.TheVariants.{CompletesPre, CompletesPost}
use Rattle.flt_model.specs.declared.event.Event.{Event}
use Rattle.flt_model.specs.declared.event.Event.TheVariants as event
use Rattle.flt_model.specs.declared.event.Object.{Object}
use Rattle.flt_model.specs.declared.event.Object.TheVariants.{Context, Visit}
use Rattle.flt_model.specs.declared.moves.Key.TheVariants.{Stream, Instance}
use Rattle.flt_model.specs.Effects.{Step, context, operation, optional, gains_context, loses_context, freed_by_drop, after_unlink}
use Rattle.flt_model.specs.Effects.{events_of_unlink, onward, goes_on, unchanged, gives_nothing, calling}
use Rattle.flt_model.specs.Locks.{with_holder, without_holder}
use Rattle.flt_model.specs.Settling.{way_of, makes_frame, settled_by}
use Rattle.flt_model.specs.Variables.{context_in, operation_in, named_in, with_context_in, with_operation_in, with_old}
use Rattle.flt_model.specs.World.{World, Store, Activation, Entry, Item, Link, is_attached, presence_at, queue_at, context_at}
use Rattle.flt_model.specs.World.{activation_at, actor_at, arrival_of, is_freed, linked_at, with_queue, add_reference, drop_reference}
use Rattle.flt_model.specs.World.{with_link}

-- ---- contexts. Source: "Managing contexts", FltAllocateContext and the pages beside it

-- a call on the stream works on the file of `data`
abbrev pub needs_of : Anchor → Option ℕ → List (Option Object)
needs_of anchor.Stream given = operation given ∷ []
needs_of anchor.Instance given = []

-- the link that a call works on: the stream of `data`, or the instance, of the filter; none where `data` is NULL
abbrev pub link_of : Store → ℕ → Anchor → Option ℕ → Option Link
link_of s f anchor.Stream None = None
link_of s f anchor.Stream (Some v) = Some (record { filter = f; key = Stream (arrival_of s v).file })
link_of s f anchor.Instance given = Some (record { filter = f; key = Instance })

-- the link takes a reference of its own
abbrev pub put_link : Store → ℕ → Link → Store
put_link s x l = with_link (add_reference s x) x (Some l)

module _ (w : World) (a : ℕ) where
  -- the activation that calls
  abbrev act : Activation
  act = activation_at w a

  -- its filter
  abbrev filter : ℕ
  filter = (actor_at w a).filter

  -- what `data` names
  abbrev given : Option ℕ
  given = operation_in act Data

  -- a new context, with the value 0 and one reference
  abbrev pub allocated : ContextVariable → List Statement → ℕ → Step
  allocated d granted x =
      goes_on w a (with_context_in (onward w a granted) d (Some x))
      (record w.store { contexts = w.store.contexts ++ record { owner = filter; references = 1; value = 0; link = None } ∷ [] })
      (event.Gain a (Context x) ∷ [])

  -- FltAllocateContext: a new context, unless the system refuses
  abbrev pub allocate : ContextVariable → Bool → List Statement → List Statement → Step
  allocate d grant granted refused =
      calling w a call.AllocateContext [] []
      (if grant then allocated d granted (length w.store.contexts) else gives_nothing w a (Some d) refused)

  -- the context that is linked there, with one reference more
  abbrev pub got : ContextVariable → List Statement → List Statement → Option ℕ → Step
  got d granted refused None = gives_nothing w a (Some d) refused
  got d granted refused (Some x) =
      goes_on w a (with_context_in (onward w a granted) d (Some x)) (add_reference w.store x) (event.Gain a (Context x) ∷ [])

  -- none where `data` was needed and is NULL
  abbrev pub get_by : ContextVariable → List Statement → List Statement → Option Link → Step
  get_by d granted refused None = unchanged w a refused
  get_by d granted refused (Some l) = got d granted refused (linked_at w.store l)

  -- FltGetStreamContext, FltGetInstanceContext
  abbrev pub get : Anchor → ContextVariable → List Statement → List Statement → Step
  get on d granted refused =
      calling w a (call.GetContext on) [] (needs_of on given) (get_by d granted refused (link_of w.store filter on given))

  -- KEEP_IF_EXISTS: the one that is there stays, and is given with one reference more
  abbrev pub kept : Option ContextVariable → List Statement → ℕ → Step
  kept None refused y = unchanged w a refused
  kept (Some d) refused y = got d refused refused (Some y)

  -- the link takes a reference of its own; REPLACE_IF_EXISTS: that of the one that was there is given, or dropped
  abbrev pub set_there : Existing → Option ContextVariable → List Statement → List Statement → ℕ → Link → Option ℕ → Step
  set_there existing old granted refused x l None =
      goes_on w a (with_old (onward w a granted) old None) (put_link w.store x l) []
  set_there Keep old granted refused x l (Some y) = kept old refused y
  set_there Replace old granted refused x l (Some y) =
      goes_on w a (with_old (onward w a granted) old (Some y)) (put_link (after_unlink w.store y old) x l)
      (events_of_unlink a w.store y old)

  -- it fails, in this order, where the filter is being detached, and where the context is linked or freed
  abbrev pub cannot_set : ℕ → Bool
  cannot_set x =
      not (is_attached (presence_at w.store filter)) || (is_some (context_at w.store x).link || is_freed (context_at w.store x))

  -- nothing is set where the context or `data` is NULL
  abbrev pub set_by : Existing → Option ContextVariable → List Statement → List Statement → Option ℕ → Option Link → Step
  set_by existing old granted refused None l = unchanged w a refused
  set_by existing old granted refused (Some x) None = unchanged w a refused
  set_by existing old granted refused (Some x) (Some l) =
      if cannot_set x then gives_nothing w a old refused else set_there existing old granted refused x l (linked_at w.store l)

  -- FltSetStreamContext, FltSetInstanceContext
  abbrev pub set_context : Anchor → Existing → ContextVariable → Option ContextVariable → List Statement → List Statement → Step
  set_context on existing c old granted refused =
      calling w a (call.SetContext on existing) [] (context (context_in act c) ∷ needs_of on given)
      (set_by existing old granted refused (context_in act c) (link_of w.store filter on given))

  -- the link's reference is given, or dropped
  abbrev pub unlinked : Option ContextVariable → List Statement → List Statement → Option ℕ → Step
  unlinked old granted refused None = gives_nothing w a old refused
  unlinked old granted refused (Some y) =
      goes_on w a (with_old (onward w a granted) old (Some y)) (after_unlink w.store y old) (events_of_unlink a w.store y old)

  -- nothing is deleted where `data` was needed and is NULL
  abbrev pub delete_by : Option ContextVariable → List Statement → List Statement → Option Link → Step
  delete_by old granted refused None = unchanged w a refused
  delete_by old granted refused (Some l) = unlinked old granted refused (linked_at w.store l)

  -- FltDeleteStreamContext, FltDeleteInstanceContext
  abbrev pub delete_at : Anchor → Option ContextVariable → List Statement → List Statement → Step
  delete_at on old granted refused =
      calling w a (call.DeleteContextOf on) [] (needs_of on given) (delete_by old granted refused (link_of w.store filter on given))

  -- unlinked where it is linked; the link's reference is dropped
  abbrev pub deleted : List Statement → Option ℕ → Step
  deleted rest None = unchanged w a rest
  deleted rest (Some x) =
      if is_some (context_at w.store x).link
      then goes_on w a (onward w a rest) (after_unlink w.store x None) (freed_by_drop w.store x)
      else unchanged w a rest

  -- FltDeleteContext
  abbrev pub delete : ContextVariable → List Statement → Step
  delete c rest = calling w a call.DeleteContext [] (context (context_in act c) ∷ []) (deleted rest (context_in act c))

  -- the context has one reference more, and the second variable names it too
  abbrev pub referenced : ContextVariable → List Statement → Option ℕ → Step
  referenced d rest None = unchanged w a rest
  referenced d rest (Some x) = got d rest rest (Some x)

  -- FltReferenceContext
  abbrev pub reference : ContextVariable → ContextVariable → List Statement → Step
  reference c d rest =
      calling w a call.ReferenceContext [] (context (context_in act c) ∷ []) (referenced d rest (context_in act c))

  -- a reference is dropped, held or not
  abbrev pub released : List Statement → Option ℕ → Step
  released rest None = unchanged w a rest
  released rest (Some x) =
      goes_on w a (onward w a rest) (drop_reference w.store x) (event.Lose a (Context x) ∷ freed_by_drop w.store x)

  -- FltReleaseContext
  abbrev pub release : ContextVariable → List Statement → Step
  release c rest = calling w a call.ReleaseContext [] (context (context_in act c) ∷ []) (released rest (context_in act c))

  -- ---- locks: what is held already isn't taken again, and what isn't held isn't released

  -- the lock is the latest of the list, and the activation is one of its holders
  abbrev pub taken : LockNumber → Access → List Statement → Step
  taken l access rest =
      if holds_lock l act.locks
      then unchanged w a rest
      else goes_on w a (record (onward w a rest) { locks = act.locks ++ held l access ∷ [] })
      (with_holder w.store filter l (record { activation = a; access = access })) []

  -- KeAcquireSpinLock, ExAcquireFastMutex, FltAcquirePushLockExclusive
  abbrev pub acquire : LockKind → LockNumber → List Statement → Step
  acquire k l rest = calling w a (call.AcquireLock k) (event.Lock a l ∷ []) [] (taken l Exclusive rest)

  -- FltAcquirePushLockShared
  abbrev pub acquire_shared : LockNumber → List Statement → Step
  acquire_shared l rest = calling w a call.AcquirePushLockShared (event.Lock a l ∷ []) [] (taken l Shared rest)

  -- the last entry of the lock leaves the list, of either kind, and the activation is none of its holders
  abbrev pub given_up : LockNumber → List Statement → Step
  given_up l rest =
      if holds_lock l act.locks
      then goes_on w a (record (onward w a rest) { locks = without_last l act.locks }) (without_holder w.store filter l a) []
      else unchanged w a rest

  -- KeReleaseSpinLock, ExReleaseFastMutex, FltReleasePushLock
  abbrev pub release_lock : LockKind → LockNumber → List Statement → Step
  release_lock k l rest = calling w a (call.ReleaseLock k) (event.Unlock a l ∷ []) [] (given_up l rest)

  -- ---- the cancel-safe queue. Source: FltCbdqInsertIo, FltCbdqRemoveNextIo

  -- one more entry at the end of the filter's queue
  abbrev pub with_entry : Entry → Store
  with_entry e = with_queue w.store filter (queue_at w.store filter ++ e ∷ [])

  -- the entry takes the visit and the context over; a queue of a filter that is being detached is disabled
  abbrev pub enqueued : List Statement → List Statement → ℕ → Option ℕ → Step
  enqueued granted refused v x =
      if is_attached (presence_at w.store filter)
      then goes_on w a (onward w a granted) (with_entry (record { visit = v; context = x })) (event.Lose a (Visit v) ∷ loses_context a x)
      else unchanged w a refused

  -- nothing is queued where the operation or the named context is NULL
  abbrev pub insert_by : List Statement → List Statement → Option ℕ → Option (Option ℕ) → Step
  insert_by granted refused None c = unchanged w a refused
  insert_by granted refused (Some v) (Some None) = unchanged w a refused
  insert_by granted refused (Some v) (Some (Some x)) = enqueued granted refused v (Some x)
  insert_by granted refused (Some v) None = enqueued granted refused v None

  -- FltCbdqInsertIo
  abbrev pub insert : Option ContextVariable → List Statement → List Statement → Step
  insert c granted refused =
      calling w a call.InsertIo [] (operation given ∷ optional (named_in act c)) (insert_by granted refused given (named_in act c))

  -- the front entry's visit and context
  abbrev pub removed : RemovedVariable → ContextVariable → List Statement → List Statement → List Entry → Step
  removed o d granted refused [] =
      goes_on w a (with_context_in (with_operation_in (onward w a refused) (Removed o) None) d None) w.store []
  removed o d granted refused (e ∷ queue) =
      goes_on w a (with_context_in (with_operation_in (onward w a granted) (Removed o) (Some e.visit)) d e.context)
      (with_queue w.store filter queue) (event.Gain a (Visit e.visit) ∷ gains_context a e.context)

  -- FltCbdqRemoveNextIo
  abbrev pub remove_next : RemovedVariable → ContextVariable → List Statement → List Statement → Step
  remove_next o d granted refused =
      calling w a call.RemoveNextIo [] [] (removed o d granted refused (queue_at w.store filter))

  -- ---- work items. Source: FltQueueDeferredIoWorkItem, FltQueueGenericWorkItem

  -- one more work item, with the next number
  abbrev pub with_item : Item → Store
  with_item i = record w.store { items = w.store.items ++ Some i ∷ [] }

  -- the item takes the visit and the context over
  abbrev pub deferred : ℕ → List Statement → ℕ → Option ℕ → Step
  deferred routine granted v x =
      goes_on w a (onward w a granted) (with_item (record { filter = filter; routine = routine; visit = Some v; context = x }))
      (event.Lose a (Visit v) ∷ loses_context a x)

  -- nothing is queued where the operation or the named context is NULL, or the system refuses
  abbrev pub defer_by : ℕ → Bool → List Statement → List Statement → Option ℕ → Option (Option ℕ) → Step
  defer_by routine grant granted refused None c = unchanged w a refused
  defer_by routine grant granted refused (Some v) (Some None) = unchanged w a refused
  defer_by routine grant granted refused (Some v) (Some (Some x)) =
      if grant then deferred routine granted v (Some x) else unchanged w a refused
  defer_by routine grant granted refused (Some v) None =
      if grant then deferred routine granted v None else unchanged w a refused

  -- FltQueueDeferredIoWorkItem
  abbrev pub queue_deferred : ℕ → Option ContextVariable → Bool → List Statement → List Statement → Step
  queue_deferred routine c grant granted refused =
      calling w a call.QueueDeferredIoWorkItem [] (operation given ∷ optional (named_in act c))
      (defer_by routine grant granted refused given (named_in act c))

  -- the item takes the context over
  abbrev pub queued : ℕ → List Statement → Option ℕ → Step
  queued routine granted x =
      goes_on w a (onward w a granted) (with_item (record { filter = filter; routine = routine; visit = None; context = x }))
      (loses_context a x)

  -- nothing is queued where the named context is NULL, or the system refuses
  abbrev pub queue_by : ℕ → Bool → List Statement → List Statement → Option (Option ℕ) → Step
  queue_by routine grant granted refused (Some None) = unchanged w a refused
  queue_by routine grant granted refused (Some (Some x)) = if grant then queued routine granted (Some x) else unchanged w a refused
  queue_by routine grant granted refused None = if grant then queued routine granted None else unchanged w a refused

  -- FltQueueGenericWorkItem
  abbrev pub queue_generic : ℕ → Option ContextVariable → Bool → List Statement → List Statement → Step
  queue_generic routine c grant granted refused =
      calling w a call.QueueGenericWorkItem [] (optional (named_in act c)) (queue_by routine grant granted refused (named_in act c))

  -- ---- completion. Source: FltCompletePendedPreOperation, FltCompletePendedPostOperation

  module _ (p : List Filter) where
    -- the visit is given back and settled; a frame takes the context over
    abbrev pub completed : List Statement → ℕ → Option ℕ → Answer → Step
    completed rest v x answer =
        let way = way_of p w.store v answer in
        goes_on w a (onward w a rest) (settled_by w.store v x way)
        (event.Lose a (Visit v) ∷ (if makes_frame w.store v way then loses_context a x else []) ++ event.Settle v ∷ [])

    -- a status is given to an operation that is there
    abbrev pub status_of : OperationVariable → Status → Option ℕ → List Event
    status_of d st None = []
    status_of d st (Some v) = event.Status a (CompletesPre (whose d) v st) ∷ []

    -- nothing is completed where the operation or the named context is NULL
    abbrev pub complete_by : OperationVariable → Status → List Statement → Option ℕ → Option (Option ℕ) → Step
    complete_by d st rest None c = unchanged w a rest
    complete_by d st rest (Some v) (Some None) = unchanged w a rest
    complete_by d st rest (Some v) (Some (Some x)) = completed rest v (Some x) (CompletesPre (whose d) v st)
    complete_by d st rest (Some v) None = completed rest v None (CompletesPre (whose d) v st)

    -- FltCompletePendedPreOperation, of `data` or of an operation taken out of the queue
    abbrev pub complete_pre : OperationVariable → Status → List Statement → Step
    complete_pre d st rest =
        let v = operation_in act d in
        let c = named_in act (context_of st) in
        calling w a (call.CompletePendedPreOperation (whose d)) (status_of d st v) (operation v ∷ optional c)
        (complete_by d st rest v c)

    -- FINISHED_PROCESSING is given to an operation that is there
    abbrev pub status_of_post : Option ℕ → List Event
    status_of_post None = []
    status_of_post (Some v) = event.Status a (CompletesPost v) ∷ []

    -- nothing is completed where the operation is NULL
    abbrev pub complete_post_by : List Statement → Option ℕ → Step
    complete_post_by rest None = unchanged w a rest
    complete_post_by rest (Some v) = completed rest v None (CompletesPost v)

    -- FltCompletePendedPostOperation
    abbrev pub complete_post : List Statement → Step
    complete_post rest =
        calling w a call.CompletePendedPostOperation (status_of_post given) (operation given ∷ []) (complete_post_by rest given)
