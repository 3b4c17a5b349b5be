-- No lock is held exclusively beside another activation: not at the opening, and not after a step from where it was so.
-- A step that takes a lock goes only where its holders let it; one that gives a lock up leaves fewer; no other changes holders.
use Rattle.std.proofs.Common.{◌≡◌, ℕ, zero, suc, Bool, true, false, List, [], ◌∷◌, ◌++◌}
use Rattle.std.proofs.Common.{length, Option, Some, None, ap, sym, subst, refl, ◌∙◌}
use Rattle.std.proofs.Math.ListN.{set, get_or}
use Rattle.std.proofs.lemmas.Bool.{and_from, and_parts, eq-eqb, eqb-true}
use Rattle.std.proofs.lemmas.List.Folds.{list_all-append}
use Rattle.std.specs.Bool.{IsTrue}
use Rattle.std.specs.List.{list_all}
use Rattle.std.specs.Prelude.{not, ◌&&◌, ◌||◌, ◌==◌, nat_lt, if◌then◌else◌, filter, find, option_map, is_some}
use Rattle.flt_rules.specs.Call.{place_of}
use Rattle.flt_rules.specs.Held.{are_compatible, holds_lock}
use Rattle.flt_rules.specs.Place.{answers, fits_mode}
use Rattle.flt_rules.specs.declared.call.Existing.{Existing}
use Rattle.flt_rules.specs.declared.call.Existing.TheVariants.{Keep, Replace}
use Rattle.flt_rules.specs.declared.call.LockNumber.{LockNumber}
use Rattle.flt_rules.specs.declared.held.Access.{Access}
use Rattle.flt_rules.specs.declared.held.Access.TheVariants.{Exclusive, Shared}
use Rattle.flt_rules.specs.declared.place.Operation.{Operation}
use Rattle.flt_tree.specs.Filter.{context_of}
use Rattle.flt_tree.specs.Variable.{whose}
use Rattle.flt_tree.specs.declared.filter.Action.{Action}
use Rattle.flt_tree.specs.declared.filter.Action.TheVariants as action
use Rattle.flt_tree.specs.declared.filter.Condition.{Condition}
use Rattle.flt_tree.specs.declared.filter.Condition.TheVariants as condition
use Rattle.flt_tree.specs.declared.filter.FallibleCall.{FallibleCall}
use Rattle.flt_tree.specs.declared.filter.FallibleCall.TheVariants as fallible
use Rattle.flt_tree.specs.declared.filter.Filter.{Filter}
use Rattle.flt_tree.specs.declared.filter.PlainCall.{PlainCall}
use Rattle.flt_tree.specs.declared.filter.PlainCall.TheVariants as plain
use Rattle.flt_tree.specs.declared.filter.Routine.{Routine}
use Rattle.flt_tree.specs.declared.filter.Span.{Span}
use Rattle.flt_tree.specs.declared.filter.Statement.{Statement, out-Statement}
use Rattle.flt_tree.specs.declared.filter.Statement.TheOpen.{Statement-F}
use Rattle.flt_tree.specs.declared.filter.Status.{Status}
use Rattle.flt_tree.specs.declared.filter.Test.{Test}
use Rattle.flt_tree.specs.declared.filter.Test.TheVariants as test
use Rattle.flt_tree.specs.declared.variable.Atom.{Atom}
use Rattle.flt_tree.specs.declared.variable.ContextVariable.{ContextVariable}
use Rattle.flt_tree.specs.declared.variable.NumberVariable.{NumberVariable}
use Rattle.flt_tree.specs.declared.variable.OperationVariable.{OperationVariable}
use Rattle.flt_tree.specs.declared.variable.OperationVariable.TheVariants.{Data}
use Rattle.flt_tree.specs.declared.variable.RemovedVariable.{RemovedVariable}
use Rattle.flt_model.specs.declared.event.Answer.TheVariants.{Returned, CompletesPre, CompletesPost}
use Rattle.flt_model.specs.declared.event.Event.{Event}
use Rattle.flt_model.specs.declared.moves.Move.{Move}
use Rattle.flt_model.specs.declared.moves.Move.TheVariants.{Arrive, Pre, Skip, Lower, Post, Cancel, Canceled}
use Rattle.flt_model.specs.declared.moves.Move.TheVariants.{Work, Detach, Drain, Unlink, Detached}
use Rattle.flt_model.specs.Calls.{link_of, allocate, got, get_by, kept, set_there, cannot_set, set_by, unlinked, delete_by, deleted}
use Rattle.flt_model.specs.Calls.{delete, referenced, reference, released, release, taken, given_up, enqueued, insert_by, removed}
use Rattle.flt_model.specs.Calls.{defer_by, queue_by, complete_by, complete_pre, complete_post_by, complete_post}
use Rattle.flt_model.specs.Effects.{Step, after_unlink}
use Rattle.flt_model.specs.LocalSteps.{local_step}
use Rattle.flt_model.specs.Locks.{holders_of, with_holders, may_join, is_free_for, exclude, locks_exclude}
use Rattle.flt_model.specs.Moves.{calls_pre, pre_at, skip_at, lower_at, last_frame, post_by, post_at, is_done}
use Rattle.flt_model.specs.Moves.{is_entry_of, canceled_by, work_by, is_frame_of, drain_by, unlink_by, is_drained, make}
use Rattle.flt_model.specs.Program.{callbacks_at, filter_of, routine_of}
use Rattle.flt_model.specs.Reads.{read_value, write_value, read_file, test_irp, read_value_of, write_value_of, read_file_of, test_irp_of}
use Rattle.flt_model.specs.Returns.{returned, returns}
use Rattle.flt_model.specs.Settling.{Way, way_of, settles_visit, is_led, settled_by}
use Rattle.flt_model.specs.Steps.{Transition, Make, Local, Board, may_take, may_go, act_step, plain_step, fallible_step}
use Rattle.flt_model.specs.Steps.{test_step, if_step, statement_step, list_step, board, moved_on, local, step}
use Rattle.flt_model.specs.Variables.{context_in, operation_in, named_in}
use Rattle.flt_model.specs.World.{World, Store, Activation, Entry, Frame, Holder, Item, Link, Position, Down, Visiting}
use Rattle.flt_model.specs.World.{Up, Route, opening, activation_at, actor_at, arrival_at, context_at, holders_at, is_attached}
use Rattle.flt_model.specs.World.{is_detaching, is_freed, item_at, linked_at, presence_at, queue_at, route_at}

-- ---- lists of which all elements pass a test

all_from : {X : Type 0} (f g : X → Bool) → ((x : X) → f x ≡ true → g x ≡ true) → (xs : List X) → list_all f xs ≡ true → list_all g xs ≡ true
all_from f g h [] k = refl
all_from f g h (x ∷ xs) k =
    let parts = and_parts (f x) (list_all f xs) k in and_from (g x) (list_all g xs) (h x parts.0) (all_from f g h xs parts.1)

-- where all pass two tests
all_by_both : {X : Type 0} (e f g : X → Bool) → ((x : X) → e x ≡ true → f x ≡ true → g x ≡ true) → (xs : List X) →
    list_all e xs ≡ true → list_all f xs ≡ true → list_all g xs ≡ true
all_by_both e f g h [] j k = refl
all_by_both e f g h (x ∷ xs) j k =
    let first = and_parts (e x) (list_all e xs) j in
    let second = and_parts (f x) (list_all f xs) k in
    and_from (g x) (list_all g xs) (h x first.0 second.0) (all_by_both e f g h xs first.1 second.1)

all_at : {X : Type 0} (f : X → Bool) (xs : List X) (i : ℕ) (d : X) → f d ≡ true → list_all f xs ≡ true → f (get_or xs i d) ≡ true
all_at f [] i d h k = h
all_at f (x ∷ xs) zero d h k = (and_parts (f x) (list_all f xs) k).0
all_at f (x ∷ xs) (suc i) d h k = all_at f xs i d h (and_parts (f x) (list_all f xs) k).1

all_set : {X : Type 0} (f : X → Bool) (xs : List X) (i : ℕ) (x : X) → f x ≡ true → list_all f xs ≡ true → list_all f (set xs i x) ≡ true
all_set f [] i x h k = refl
all_set f (y ∷ xs) zero x h k = and_from (f x) (list_all f xs) h (and_parts (f y) (list_all f xs) k).1
all_set f (y ∷ xs) (suc i) x h k =
    let parts = and_parts (f y) (list_all f xs) k in and_from (f y) (list_all f (set xs i x)) parts.0 (all_set f xs i x h parts.1)

-- of those that a filter leaves
all_filter : {X : Type 0} (f keep : X → Bool) (xs : List X) → list_all f xs ≡ true → list_all f (filter keep xs) ≡ true
all_filter f keep [] k = refl
all_filter f keep (x ∷ xs) k =
    let parts = and_parts (f x) (list_all f xs) k in by (keep x) parts.0 (all_filter f keep xs parts.1)
  where
    by : (b : Bool) → f x ≡ true → list_all f (filter keep xs) ≡ true → list_all f (if b then x ∷ filter keep xs else filter keep xs) ≡ true
    by true h k = and_from (f x) (list_all f (filter keep xs)) h k
    by false h k = k

-- ---- the holders of one lock

compatible_back : (x y : Access) → are_compatible x y ≡ true → are_compatible y x ≡ true
compatible_back Exclusive Exclusive h = h
compatible_back Exclusive Shared h = h
compatible_back Shared Exclusive h = h
compatible_back Shared Shared h = h

equal_back : (a b : ℕ) → (a == b) ≡ true → (b == a) ≡ true
equal_back a b h = eq-eqb b a (sym (eqb-true a b h))

or_from : (b c : Bool) → b ≡ true → (b || c) ≡ true
or_from b c h = ap (λ x. x || c) h

-- two may hold a lock side by side in whichever order they came
join_back : (h k : Holder) → may_join h.activation h.access k ≡ true → may_join k.activation k.access h ≡ true
join_back h k j = by (k.activation == h.activation) refl j
  where
    by : (b : Bool) → (k.activation == h.activation) ≡ b → (b || are_compatible h.access k.access) ≡ true →
        may_join k.activation k.access h ≡ true
    by true e j = or_from (h.activation == k.activation) (are_compatible k.access h.access) (equal_back k.activation h.activation e)
    by false e j = by_access (h.activation == k.activation) (compatible_back h.access k.access j)
      where
        by_access : (b : Bool) → are_compatible k.access h.access ≡ true → (b || are_compatible k.access h.access) ≡ true
        by_access true i = refl
        by_access false i = i

-- one more that may join all of them
joined_exclude : (holders : List Holder) (h : Holder) → exclude holders ≡ true → is_free_for h.activation h.access holders ≡ true →
    exclude (holders ++ h ∷ []) ≡ true
joined_exclude holders h e free =
    let more = holders ++ h ∷ [] in
    let beside : Holder → Bool = λ (k : Holder). is_free_for k.activation k.access more in
    let own : may_join h.activation h.access h ≡ true =
    or_from (h.activation == h.activation) (are_compatible h.access h.access) (eq-eqb h.activation h.activation refl) in
    list_all-append beside holders (h ∷ [])
    ∙ and_from (list_all beside holders) (list_all beside (h ∷ []))
    (all_by_both (λ (k : Holder). is_free_for k.activation k.access holders) (may_join h.activation h.access) beside
    (λ k j i. with_last k j (join_back h k i)) holders e free)
    (and_from (beside h) true (with_last h free own) refl)
  where
    with_last : (k : Holder) → is_free_for k.activation k.access holders ≡ true → may_join k.activation k.access h ≡ true →
        is_free_for k.activation k.access (holders ++ h ∷ []) ≡ true
    with_last k j i =
        let test = may_join k.activation k.access in
        list_all-append test holders (h ∷ [])
        ∙ and_from (list_all test holders) (list_all test (h ∷ [])) j (and_from (test h) true i refl)

-- some of them
left_exclude : (keep : Holder → Bool) (holders : List Holder) → exclude holders ≡ true → exclude (filter keep holders) ≡ true
left_exclude keep holders e =
    all_filter (λ (k : Holder). is_free_for k.activation k.access (filter keep holders)) keep holders
    (all_from (λ (k : Holder). is_free_for k.activation k.access holders)
    (λ (k : Holder). is_free_for k.activation k.access (filter keep holders))
    (λ k j. all_filter (may_join k.activation k.access) keep holders j) holders e)

-- ---- the holders of all locks

abbrev all_exclude : List (List (List Holder)) → Bool
all_exclude = list_all (list_all exclude)

-- before the first step nobody holds any
pub opening_excludes : (p : List Filter) → locks_exclude (opening p) ≡ true
opening_excludes [] = refl
opening_excludes (f ∷ p) = opening_excludes p

module _ (s : Store) (f : ℕ) (l : LockNumber) where
  of_filter : all_exclude s.holders ≡ true → list_all exclude (holders_at s f) ≡ true
  of_filter h = all_at (list_all exclude) s.holders f [] refl h

  of_lock : all_exclude s.holders ≡ true → exclude (holders_of s f l) ≡ true
  of_lock h = all_at exclude (holders_at s f) (place_of l) [] refl (of_filter h)

  set_excludes : (holders : List Holder) → exclude holders ≡ true → all_exclude s.holders ≡ true →
      all_exclude (with_holders s f l holders).holders ≡ true
  set_excludes holders e h =
      all_set (list_all exclude) s.holders f (set (holders_at s f) (place_of l) holders)
      (all_set exclude (holders_at s f) (place_of l) holders e (of_filter h)) h

-- ---- steps of an activation

-- the holders after a step
abbrev held_after : Step → List (List (List Holder))
held_after s = s.world.store.holders

-- either of two
if_is : {X Y : Type 0} (f : X → Y) (b : Bool) (x y : X) (u : Y) → f x ≡ u → f y ≡ u → f (if b then x else y) ≡ u
if_is f true x y u h k = h
if_is f false x y u h k = k

module _ (w : World) (a : ℕ) where
  -- nobody takes or gives up a lock
  abbrev Leaves : Step → Type 0
  Leaves s = held_after s ≡ w.store.holders

  if_leaves : (b : Bool) (r s : Step) → Leaves r → Leaves s → Leaves (if b then r else s)
  if_leaves b r s h k = if_is held_after b r s w.store.holders h k

  abbrev here : Activation
  here = activation_at w a

  abbrev own_filter : ℕ
  own_filter = (actor_at w a).filter

  -- ---- contexts

  unlink_leaves : (x : ℕ) (old : Option ContextVariable) → (after_unlink w.store x old).holders ≡ w.store.holders
  unlink_leaves x None = refl
  unlink_leaves x (Some d) = refl

  allocate_leaves : (d : ContextVariable) (grant : Bool) (granted refused : List Statement) → Leaves (allocate w a d grant granted refused)
  allocate_leaves d grant granted refused = if_leaves grant _ _ refl refl

  got_leaves : (d : ContextVariable) (granted refused : List Statement) (x : Option ℕ) → Leaves (got w a d granted refused x)
  got_leaves d granted refused None = refl
  got_leaves d granted refused (Some x) = refl

  get_by_leaves : (d : ContextVariable) (granted refused : List Statement) (l : Option Link) → Leaves (get_by w a d granted refused l)
  get_by_leaves d granted refused None = refl
  get_by_leaves d granted refused (Some l) = got_leaves d granted refused (linked_at w.store l)

  kept_leaves : (old : Option ContextVariable) (refused : List Statement) (y : ℕ) → Leaves (kept w a old refused y)
  kept_leaves None refused y = refl
  kept_leaves (Some d) refused y = refl

  there_leaves : (existing : Existing) (old : Option ContextVariable) (granted refused : List Statement) (x : ℕ) (l : Link) (y : Option ℕ) →
      Leaves (set_there w a existing old granted refused x l y)
  there_leaves existing old granted refused x l None = refl
  there_leaves Keep old granted refused x l (Some y) = kept_leaves old refused y
  there_leaves Replace old granted refused x l (Some y) = unlink_leaves y old

  set_leaves : (existing : Existing) (old : Option ContextVariable) (granted refused : List Statement) (x : Option ℕ) (l : Option Link) →
      Leaves (set_by w a existing old granted refused x l)
  set_leaves existing old granted refused None l = refl
  set_leaves existing old granted refused (Some x) None = refl
  set_leaves existing old granted refused (Some x) (Some l) =
      if_leaves (cannot_set w a x) _ _ refl (there_leaves existing old granted refused x l (linked_at w.store l))

  unlinked_leaves : (old : Option ContextVariable) (granted refused : List Statement) (y : Option ℕ) →
      Leaves (unlinked w a old granted refused y)
  unlinked_leaves old granted refused None = refl
  unlinked_leaves old granted refused (Some y) = unlink_leaves y old

  delete_by_leaves : (old : Option ContextVariable) (granted refused : List Statement) (l : Option Link) →
      Leaves (delete_by w a old granted refused l)
  delete_by_leaves old granted refused None = refl
  delete_by_leaves old granted refused (Some l) = unlinked_leaves old granted refused (linked_at w.store l)

  deleted_leaves : (rest : List Statement) (x : Option ℕ) → Leaves (deleted w a rest x)
  deleted_leaves rest None = refl
  deleted_leaves rest (Some x) = if_leaves (is_some (context_at w.store x).link) _ _ refl refl

  referenced_leaves : (d : ContextVariable) (rest : List Statement) (x : Option ℕ) → Leaves (referenced w a d rest x)
  referenced_leaves d rest None = refl
  referenced_leaves d rest (Some x) = refl

  released_leaves : (rest : List Statement) (x : Option ℕ) → Leaves (released w a rest x)
  released_leaves rest None = refl
  released_leaves rest (Some x) = refl

  -- ---- the queue and work items

  enqueued_leaves : (granted refused : List Statement) (v : ℕ) (x : Option ℕ) → Leaves (enqueued w a granted refused v x)
  enqueued_leaves granted refused v x = if_leaves (is_attached (presence_at w.store own_filter)) _ _ refl refl

  insert_leaves : (granted refused : List Statement) (v : Option ℕ) (c : Option (Option ℕ)) → Leaves (insert_by w a granted refused v c)
  insert_leaves granted refused None c = refl
  insert_leaves granted refused (Some v) (Some None) = refl
  insert_leaves granted refused (Some v) (Some (Some x)) = enqueued_leaves granted refused v (Some x)
  insert_leaves granted refused (Some v) None = enqueued_leaves granted refused v None

  removed_leaves : (o : RemovedVariable) (d : ContextVariable) (granted refused : List Statement) (queue : List Entry) →
      Leaves (removed w a o d granted refused queue)
  removed_leaves o d granted refused [] = refl
  removed_leaves o d granted refused (e ∷ queue) = refl

  defer_leaves : (routine : ℕ) (grant : Bool) (granted refused : List Statement) (v : Option ℕ) (c : Option (Option ℕ)) →
      Leaves (defer_by w a routine grant granted refused v c)
  defer_leaves routine grant granted refused None c = refl
  defer_leaves routine grant granted refused (Some v) (Some None) = refl
  defer_leaves routine grant granted refused (Some v) (Some (Some x)) = if_leaves grant _ _ refl refl
  defer_leaves routine grant granted refused (Some v) None = if_leaves grant _ _ refl refl

  queue_leaves : (routine : ℕ) (grant : Bool) (granted refused : List Statement) (c : Option (Option ℕ)) →
      Leaves (queue_by w a routine grant granted refused c)
  queue_leaves routine grant granted refused (Some None) = refl
  queue_leaves routine grant granted refused (Some (Some x)) = if_leaves grant _ _ refl refl
  queue_leaves routine grant granted refused None = if_leaves grant _ _ refl refl

  -- ---- completion and the end

  settled_leaves : (v : ℕ) (x : Option ℕ) (way : Way) → (settled_by w.store v x way).holders ≡ w.store.holders
  settled_leaves v x way =
      let of : Store → List (List (List Holder)) = λ s. s.holders in
      if_is of (settles_visit way) _ _ w.store.holders (if_is of (is_led w.store v) _ _ w.store.holders refl refl) refl

  module _ (p : List Filter) where
    complete_leaves : (d : OperationVariable) (st : Status) (rest : List Statement) (v : Option ℕ) (c : Option (Option ℕ)) →
        Leaves (complete_by w a p d st rest v c)
    complete_leaves d st rest None c = refl
    complete_leaves d st rest (Some v) (Some None) = refl
    complete_leaves d st rest (Some v) (Some (Some x)) = settled_leaves v (Some x) (way_of p w.store v (CompletesPre (whose d) v st))
    complete_leaves d st rest (Some v) None = settled_leaves v None (way_of p w.store v (CompletesPre (whose d) v st))

    complete_post_leaves : (rest : List Statement) (v : Option ℕ) → Leaves (complete_post_by w a p rest v)
    complete_post_leaves rest None = refl
    complete_post_leaves rest (Some v) = settled_leaves v None (way_of p w.store v (CompletesPost v))

    module _ (t : List Event) where
      returned_leaves : (st : Option Status) (b : Bool) (v : Option ℕ) → Leaves (returned p t w a st b v)
      returned_leaves st true (Some v) = settled_leaves v _ (way_of p w.store v (Returned st))
      returned_leaves st true None = refl
      returned_leaves st false v = refl

      returns_leaves : (st : Option Status) → Leaves (returns p t w a st)
      returns_leaves st = returned_leaves st (answers (actor_at w a).place) (operation_in here Data)

      fallible_leaves : (grant : Bool) (granted refused : List Statement) (c : FallibleCall Routine) →
          Leaves (fallible_step p t w a grant granted refused c)
      fallible_leaves grant granted refused (fallible.AllocateContext d) = allocate_leaves d grant granted refused
      fallible_leaves grant granted refused (fallible.GetContext on d) =
          get_by_leaves d granted refused (link_of w.store own_filter on (operation_in here Data))
      fallible_leaves grant granted refused (fallible.SetContext on existing c old) =
          set_leaves existing old granted refused (context_in here c) (link_of w.store own_filter on (operation_in here Data))
      fallible_leaves grant granted refused (fallible.DeleteContextOf on old) =
          delete_by_leaves old granted refused (link_of w.store own_filter on (operation_in here Data))
      fallible_leaves grant granted refused (fallible.InsertIo c) = insert_leaves granted refused (operation_in here Data) (named_in here c)
      fallible_leaves grant granted refused (fallible.RemoveNextIo o d) = removed_leaves o d granted refused (queue_at w.store own_filter)
      fallible_leaves grant granted refused (fallible.QueueDeferredIoWorkItem r c) =
          defer_leaves (routine_of (callbacks_at p own_filter) r) grant granted refused (operation_in here Data) (named_in here c)
      fallible_leaves grant granted refused (fallible.QueueGenericWorkItem r c) =
          queue_leaves (routine_of (callbacks_at p own_filter) r) grant granted refused (named_in here c)

  -- ---- reads

  value_read : (n : NumberVariable) (rest : List Statement) (x : Option ℕ) → Leaves (read_value_of w a n rest x)
  value_read n rest None = refl
  value_read n rest (Some x) = refl

  value_written : (value : Atom) (rest : List Statement) (x : Option ℕ) → Leaves (write_value_of w a value rest x)
  value_written value rest None = refl
  value_written value rest (Some x) =
      let of : Store → List (List (List Holder)) = λ s. s.holders in
      if_is of (is_freed (context_at w.store x)) _ _ w.store.holders refl refl

  file_read : (n : NumberVariable) (rest : List Statement) (v : Option ℕ) → Leaves (read_file_of w a n rest v)
  file_read n rest None = refl
  file_read n rest (Some v) = refl

  irp_tested : (holds fails : List Statement) (v : Option ℕ) → Leaves (test_irp_of w a holds fails v)
  irp_tested holds fails None = refl
  irp_tested holds fails (Some v) = refl

-- ---- exclusive before, exclusive after

module _ (w : World) where
  abbrev Excludes : Step → Type 0
  Excludes s = locks_exclude w ≡ true → locks_exclude s.world ≡ true

  left_excludes : (s : Step) → held_after s ≡ w.store.holders → Excludes s
  left_excludes s same h = ap all_exclude same ∙ h

  if_excludes : (b : Bool) (r s : Step) → Excludes r → Excludes s → Excludes (if b then r else s)
  if_excludes true r s h k = h
  if_excludes false r s h k = k

  some_excludes : (r s : Step) → Excludes r → Some r ≡ Some s → Excludes s
  some_excludes r s k e = let same : r ≡ s = cc in subst Excludes same k

  when_excludes : (b : Bool) (o : Option Step) (s : Step) → (if b then o else None) ≡ Some s →
      (b ≡ true → o ≡ Some s → Excludes s) → Excludes s
  when_excludes true o s e k = k refl e
  when_excludes false o s e k = absurd (cc)

  unless_excludes : (b : Bool) (o : Option Step) (s : Step) → (if b then None else o) ≡ Some s → (o ≡ Some s → Excludes s) → Excludes s
  unless_excludes true o s e k = absurd (cc)
  unless_excludes false o s e k = k e

-- ---- steps that others see

module _ (p : List Filter) (t : List Event) (w : World) (a : ℕ) where
  abbrev now : Activation
  now = activation_at w a

  abbrev of_filter_here : ℕ
  of_filter_here = (actor_at w a).filter

  -- taken only where the others let it
  taken_excludes : (l : LockNumber) (access : Access) (rest : List Statement) → may_take w a l access ≡ true →
      Excludes w (taken w a l access rest)
  taken_excludes l access rest free =
      let holders = holders_of w.store of_filter_here l in
      let h : Holder = record { activation = a; access = access } in
      if_excludes w (holds_lock l now.locks) _ _ (λ e. e)
      (λ e. set_excludes w.store of_filter_here l (holders ++ h ∷ [])
      (joined_exclude holders h (of_lock w.store of_filter_here l e) free) e)

  given_up_excludes : (l : LockNumber) (rest : List Statement) → Excludes w (given_up w a l rest)
  given_up_excludes l rest =
      let holders = holders_of w.store of_filter_here l in
      let others : Holder → Bool = λ (h : Holder). not (h.activation == a) in
      if_excludes w (holds_lock l now.locks) _ _
      (λ e. set_excludes w.store of_filter_here l (filter others holders)
      (left_exclude others holders (of_lock w.store of_filter_here l e)) e)
      (λ e. e)

  granted_of : (grant free : Bool) → (grant && free) ≡ true → free ≡ true
  granted_of grant free h = (and_parts grant free h).1

  plain_excludes : (span : Span) (rest : List Statement) (grant : Bool) (c : PlainCall) →
      may_go w a grant (Statement-F.Call span c) ≡ true →
      Excludes w (plain_step p t w a rest c)
  plain_excludes span rest grant (plain.DeleteContext c) go =
      left_excludes w (delete w a c rest) (deleted_leaves w a rest (context_in now c))
  plain_excludes span rest grant (plain.ReferenceContext c d) go =
      left_excludes w (reference w a c d rest) (referenced_leaves w a d rest (context_in now c))
  plain_excludes span rest grant (plain.ReleaseContext c) go =
      left_excludes w (release w a c rest) (released_leaves w a rest (context_in now c))
  plain_excludes span rest grant (plain.AcquireLock k l) go =
      taken_excludes l Exclusive rest (granted_of grant (may_take w a l Exclusive) go)
  plain_excludes span rest grant (plain.AcquirePushLockShared l) go =
      taken_excludes l Shared rest (granted_of grant (may_take w a l Shared) go)
  plain_excludes span rest grant (plain.ReleaseLock k l) go = given_up_excludes l rest
  plain_excludes span rest grant (plain.CompletePendedPreOperation d st) go =
      left_excludes w (complete_pre w a p d st rest) (complete_leaves w a p d st rest (operation_in now d) (named_in now (context_of st)))
  plain_excludes span rest grant plain.CompletePendedPostOperation go =
      left_excludes w (complete_post w a p rest) (complete_post_leaves w a p rest (operation_in now Data))

  act_excludes : (rest : List Statement) (x : Action) (s : Step) → act_step p t w a rest x ≡ Some s → Excludes w s
  act_excludes rest (action.ReadValue n c) s e =
      some_excludes w (read_value w a n c rest) s (left_excludes w (read_value w a n c rest) (value_read w a n rest (context_in now c))) e
  act_excludes rest (action.ReadFile n d) s e =
      some_excludes w (read_file w a n d rest) s (left_excludes w (read_file w a n d rest) (file_read w a n rest (operation_in now d))) e
  act_excludes rest (action.WriteValue c x) s e =
      some_excludes w (write_value w a c x rest) s
      (left_excludes w (write_value w a c x rest) (value_written w a x rest (context_in now c))) e
  act_excludes rest (action.SetNumber n x) s e = absurd (cc)
  act_excludes rest (action.ClearContext c) s e = absurd (cc)
  act_excludes rest (action.ClearOperation o) s e = absurd (cc)

  test_excludes : (holds fails : List Statement) (x : Test) (s : Step) → test_step p t w a holds fails x ≡ Some s → Excludes w s
  test_excludes holds fails test.IsIrp s e =
      some_excludes w (test_irp w a holds fails) s
      (left_excludes w (test_irp w a holds fails) (irp_tested w a holds fails (operation_in now Data))) e
  test_excludes holds fails (test.ContextIsSome c) s e = absurd (cc)
  test_excludes holds fails (test.OperationIsSome o) s e = absurd (cc)
  test_excludes holds fails (test.Equal n x) s e = absurd (cc)
  test_excludes holds fails (test.Less n x) s e = absurd (cc)
  test_excludes holds fails test.IsDraining s e = absurd (cc)

  branch_excludes : (grant : Bool) (granted refused : List Statement) (asked : Condition) (s : Step) →
      if_step p t w a grant granted refused asked ≡ Some s → Excludes w s
  branch_excludes grant granted refused (condition.Test x) s e = test_excludes granted refused x s e
  branch_excludes grant granted refused (condition.Succeeds c) s e =
      some_excludes w (fallible_step p t w a grant granted refused c) s
      (left_excludes w (fallible_step p t w a grant granted refused c) (fallible_leaves w a p t grant granted refused c)) e

  return_excludes : (st : Option Status) (s : Step) → Some (returns p t w a st) ≡ Some s → Excludes w s
  return_excludes st s e = some_excludes w (returns p t w a st) s (left_excludes w (returns p t w a st) (returns_leaves w a p t st)) e

  statement_excludes : (rest : List Statement) (grant : Bool) (layer : Statement-F Statement) (s : Step) → may_go w a grant layer ≡ true →
      statement_step p t w a rest grant layer ≡ Some s → Excludes w s
  statement_excludes rest grant (Statement-F.Act span x) s go e = act_excludes rest x s e
  statement_excludes rest grant (Statement-F.Call span c) s go e =
      some_excludes w (plain_step p t w a rest c) s (plain_excludes span rest grant c go) e
  statement_excludes rest grant (Statement-F.Return span st) s go e = return_excludes st s e
  statement_excludes rest grant (Statement-F.If span asked granted refused) s go e =
      branch_excludes grant (granted ++ rest) (refused ++ rest) asked s e
  statement_excludes rest grant (Statement-F.Repeat span turns block) s go e = absurd (cc)

  list_excludes : (list : List Statement) (grant : Bool) (s : Step) → list_step p t w a list grant ≡ Some s → Excludes w s
  list_excludes [] grant s e = when_excludes w grant (Some (returns p t w a None)) s e (λ go k. return_excludes None s k)
  list_excludes (x ∷ rest) grant s e =
      when_excludes w (may_go w a grant (out-Statement x)) (statement_step p t w a rest grant (out-Statement x)) s e
      (λ go k. statement_excludes rest grant (out-Statement x) s go k)

  board_excludes : (grant : Bool) (s : Step) → board p t w a grant ≡ Some s → Excludes w s
  board_excludes grant s e = unless_excludes w now.ended (list_step p t w a now.rest grant) s e (λ k. list_excludes now.rest grant s k)

  moved_excludes : (o : Option Activation) (s : Step) → option_map (moved_on p t w a) o ≡ Some s → Excludes w s
  moved_excludes None s e = absurd (cc)
  moved_excludes (Some act) s e = some_excludes w (moved_on p t w a act) s (λ h. h) e

  local_excludes : (s : Step) → local p t w a ≡ Some s → Excludes w s
  local_excludes s e =
      let o = local_step (actor_at w a).draining now now.rest in
      unless_excludes w now.ended (option_map (moved_on p t w a) o) s e (λ k. moved_excludes o s k)

-- ---- moves

module _ (p : List Filter) (w : World) where
  -- a move leaves all holders
  moves : (r s : Step) → Some r ≡ Some s → held_after r ≡ w.store.holders → Excludes w s
  moves r s e h = some_excludes w r s (left_excludes w r h) e

  pre_excludes : (o : ℕ) (kind : Operation) (at : Position) (s : Step) → pre_at p w o kind at ≡ Some s → Excludes w s
  pre_excludes o kind (Down f) s e = when_excludes w (nat_lt f (length p) && calls_pre p w.store f kind) _ s e (λ go k. moves _ s k refl)
  pre_excludes o kind Visiting s e = absurd (cc)
  pre_excludes o kind Up s e = absurd (cc)

  skip_excludes : (o : ℕ) (kind : Operation) (at : Position) (s : Step) → skip_at p w o kind at ≡ Some s → Excludes w s
  skip_excludes o kind (Down f) s e =
      when_excludes w (nat_lt f (length p) && not (calls_pre p w.store f kind)) _ s e (λ go k. moves _ s k refl)
  skip_excludes o kind Visiting s e = absurd (cc)
  skip_excludes o kind Up s e = absurd (cc)

  lower_excludes : (o : ℕ) (at : Position) (s : Step) → lower_at p w o at ≡ Some s → Excludes w s
  lower_excludes o (Down f) s e = unless_excludes w (nat_lt f (length p)) _ s e (λ k. moves _ s k refl)
  lower_excludes o Visiting s e = absurd (cc)
  lower_excludes o Up s e = absurd (cc)

  frame_excludes : (o : ℕ) (route : Route) (frame : Option Frame) (s : Step) → post_by p w o route frame ≡ Some s → Excludes w s
  frame_excludes o route None s e = absurd (cc)
  frame_excludes o route (Some frame) s e = moves _ s e refl

  post_excludes : (o : ℕ) (route : Route) (at : Position) (s : Step) → post_at p w o route at ≡ Some s → Excludes w s
  post_excludes o route Up s e = frame_excludes o route (last_frame route.frames) s e
  post_excludes o route (Down f) s e = absurd (cc)
  post_excludes o route Visiting s e = absurd (cc)

  entry_excludes : (f o : ℕ) (entry : Option Entry) (s : Step) → canceled_by p w f o entry ≡ Some s → Excludes w s
  entry_excludes f o None s e = absurd (cc)
  entry_excludes f o (Some entry) s e = moves _ s e refl

  item_excludes : (i : ℕ) (item : Option Item) (s : Step) → work_by p w i item ≡ Some s → Excludes w s
  item_excludes i None s e = absurd (cc)
  item_excludes i (Some item) s e = moves _ s e refl

  drain_excludes : (f o : ℕ) (frame : Option Frame) (s : Step) → drain_by p w f o frame ≡ Some s → Excludes w s
  drain_excludes f o None s e = absurd (cc)
  drain_excludes f o (Some frame) s e = moves _ s e refl

  unlink_excludes : (x : Option ℕ) (s : Step) → unlink_by w x ≡ Some s → Excludes w s
  unlink_excludes None s e = absurd (cc)
  unlink_excludes (Some x) s e = moves _ s e refl

  make_excludes : (x : Move) (s : Step) → make p w x ≡ Some s → Excludes w s
  make_excludes (Arrive kind mode file) s e = when_excludes w (fits_mode kind mode && nat_lt file 1024) _ s e (λ go k. moves _ s k refl)
  make_excludes (Pre o) s e = pre_excludes o (arrival_at w.store o).kind (route_at w.store o).position s e
  make_excludes (Skip o) s e = skip_excludes o (arrival_at w.store o).kind (route_at w.store o).position s e
  make_excludes (Lower o) s e = lower_excludes o (route_at w.store o).position s e
  make_excludes (Post o) s e = post_excludes o (route_at w.store o) (route_at w.store o).position s e
  make_excludes (Cancel o) s e = unless_excludes w (is_done w.store o || (route_at w.store o).cancelled) _ s e (λ k. moves _ s k refl)
  make_excludes (Canceled altitude o) s e =
      let f = filter_of p altitude in
      let entry = find (is_entry_of w.store o) (queue_at w.store f) in
      when_excludes w ((route_at w.store o).cancelled || is_detaching (presence_at w.store f)) (canceled_by p w f o entry) s e
      (λ go k. entry_excludes f o entry s k)
  make_excludes (Work i) s e = item_excludes i (item_at w.store i) s e
  make_excludes (Detach altitude) s e =
      when_excludes w (is_attached (presence_at w.store (filter_of p altitude))) _ s e (λ go k. moves _ s k refl)
  make_excludes (Drain altitude o) s e =
      let f = filter_of p altitude in
      let frame = find (is_frame_of f) (route_at w.store o).frames in
      when_excludes w (is_detaching (presence_at w.store f)) (drain_by p w f o frame) s e (λ go k. drain_excludes f o frame s k)
  make_excludes (Unlink altitude key) s e =
      let f = filter_of p altitude in
      let x = linked_at w.store (record { filter = f; key = key }) in
      when_excludes w (is_detaching (presence_at w.store f)) (unlink_by w x) s e (λ go k. unlink_excludes x s k)
  make_excludes (Detached altitude) s e =
      let f = filter_of p altitude in
      when_excludes w (is_detaching (presence_at w.store f) && is_drained w f) _ s e (λ go k. moves _ s k refl)

-- ---- the law

-- a step from where locks are exclusive leads to where they are
pub steps_exclude : (p : List Filter) (w : World) (t : List Event) (x : Transition) (s : Step) → step p w t x ≡ Some s →
    IsTrue (locks_exclude w) → IsTrue (locks_exclude s.world)
steps_exclude p w t (Make m) s e = make_excludes p w m s e
steps_exclude p w t (Local a) s e = local_excludes p t w a s e
steps_exclude p w t (Board a grant) s e = board_excludes p t w a grant s e
