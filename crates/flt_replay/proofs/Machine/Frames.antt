-- What a step of an activation leaves as it is: all actors, visits and arrivals, the other activations, and the variable `data`.
-- The rules of statuses, levels, locks and places read nothing else, so they can be read after the step as well.
use Rattle.std.proofs.Common.{◌≡◌, ◌<◌, ℕ, Bool, true, false, List, [], ◌∷◌, ◌++◌, Option, Some}
use Rattle.std.proofs.Common.{None, inl, inr, true≢false, length, ap, sym, refl, ◌∙◌, arith}
use Rattle.std.proofs.Math.ListN.{set, get_or}
use Rattle.std.proofs.lemmas.Bool.{eq-eqb, and_from, cases_lt}
use Rattle.std.proofs.lemmas.List.{get_or-set_other, get_or_past}
use Rattle.std.proofs.lemmas.List.Folds.{list_all-append}
use Rattle.std.specs.List.{list_all}
use Rattle.std.specs.Prelude.{◌||◌, ◌==◌, if◌then◌else◌, is_some}
use Rattle.flt_rules.specs.Held.{holds_lock}
use Rattle.flt_rules.specs.Place.{answers, is_irp}
use Rattle.flt_rules.specs.declared.call.Anchor.{Anchor}
use Rattle.flt_rules.specs.declared.call.Call.{Call}
use Rattle.flt_rules.specs.declared.call.Existing.{Existing}
use Rattle.flt_rules.specs.declared.call.Existing.TheVariants.{Keep, Replace}
use Rattle.flt_rules.specs.declared.call.LockKind.{LockKind}
use Rattle.flt_rules.specs.declared.call.LockNumber.{LockNumber}
use Rattle.flt_rules.specs.declared.held.Access.{Access}
use Rattle.flt_rules.specs.declared.held.Access.TheVariants.{Exclusive, Shared}
use Rattle.flt_tree.specs.Filter.{context_of, named_context}
use Rattle.flt_tree.specs.Variable.{whose}
use Rattle.flt_tree.specs.declared.filter.FallibleCall.{FallibleCall}
use Rattle.flt_tree.specs.declared.filter.FallibleCall.TheVariants as fallible
use Rattle.flt_tree.specs.declared.filter.Filter.{Filter}
use Rattle.flt_tree.specs.declared.filter.PlainCall.{PlainCall}
use Rattle.flt_tree.specs.declared.filter.PlainCall.TheVariants as plain
use Rattle.flt_tree.specs.declared.filter.Routine.{Routine}
use Rattle.flt_tree.specs.declared.filter.Statement.{Statement}
use Rattle.flt_tree.specs.declared.filter.Status.{Status}
use Rattle.flt_tree.specs.declared.variable.Atom.{Atom}
use Rattle.flt_tree.specs.declared.variable.ContextVariable.{ContextVariable}
use Rattle.flt_tree.specs.declared.variable.NumberVariable.{NumberVariable}
use Rattle.flt_tree.specs.declared.variable.OperationVariable.{OperationVariable}
use Rattle.flt_tree.specs.declared.variable.OperationVariable.TheVariants.{Removed, Data}
use Rattle.flt_tree.specs.declared.variable.RemovedVariable.{RemovedVariable}
use Rattle.flt_tree.specs.declared.variable.RemovedVariable.TheVariants.{O0, O1, O2, O3}
use Rattle.flt_model.specs.declared.event.Answer.{Answer}
use Rattle.flt_model.specs.declared.event.Answer.TheVariants.{Returned, CompletesPre, CompletesPost}
use Rattle.flt_model.specs.declared.event.Event.{Event}
use Rattle.flt_model.specs.declared.event.Event.TheVariants as event
use Rattle.flt_model.specs.declared.event.Object.{Object}
use Rattle.flt_model.specs.declared.event.Object.TheVariants.{Visit}
use Rattle.flt_model.specs.Calls.{needs_of, link_of, set_there, set_by, cannot_set, got, kept, get_by, allocate, allocated, get}
use Rattle.flt_model.specs.Calls.{set_context, unlinked, delete_by, delete_at, deleted, delete, referenced, reference, released}
use Rattle.flt_model.specs.Calls.{release, taken, acquire, acquire_shared, given_up, release_lock, enqueued, insert_by, insert, removed}
use Rattle.flt_model.specs.Calls.{remove_next, deferred, defer_by, queue_deferred, queued, queue_by, queue_generic, completed, status_of}
use Rattle.flt_model.specs.Calls.{complete_by, complete_pre, status_of_post, complete_post_by, complete_post}
use Rattle.flt_model.specs.Effects.{Step, context, operation, optional, uses, empties, gains_context, loses_context, freed_by_drop}
use Rattle.flt_model.specs.Effects.{after_unlink, events_of_unlink, onward, goes_on, unchanged, gives_nothing, needing, calling}
use Rattle.flt_model.specs.Program.{callbacks_at, routine_of}
use Rattle.flt_model.specs.Reads.{put_value, read_value_of, write_value_of, read_file_of, test_irp_of}
use Rattle.flt_model.specs.Returns.{ends, status_given, context_used, visit_given_back, returned, returns, there}
use Rattle.flt_model.specs.declared.settling.Way.{Way}
use Rattle.flt_model.specs.Settling.{led, way_of, settles_visit, makes_frame, is_led, lead, settled_by}
use Rattle.flt_model.specs.Steps.{plain_step, fallible_step, list_step, board}
use Rattle.flt_model.specs.Trace.{is_held}
use Rattle.flt_model.specs.Variables.{operation_in, context_in, named_in, atom_value, with_number, with_old, with_operation_in}
use Rattle.flt_model.specs.declared.parts.Entry.{Entry}
use Rattle.flt_model.specs.declared.parts.Link.{Link}
use Rattle.flt_model.specs.World.{World, Store, Activation, activation_at, actor_at, is_attached, presence_at, queue_at}
use Rattle.flt_model.specs.World.{context_at, is_freed, linked_at, nobody, arrival_of, visit_at, route_at, with_context, with_route}
use Rattle.flt_replay.proofs.Machine.EachStep.{OfEach, of_list}
use Rattle.flt_replay.specs.Judging.{is_by}

-- ---- what a step leaves

pub record Framed (w : World) (a : ℕ) (s : Step) : Type 0 where
  pub act : Activation
  pub one_activation : s.world.activations ≡ set w.activations a act
  pub same_data : operation_in act Data ≡ operation_in (activation_at w a) Data
  pub same_actors : s.world.actors ≡ w.actors
  pub same_visits : s.world.store.visits ≡ w.store.visits
  pub same_arrivals : s.world.store.arrivals ≡ w.store.arrivals
  pub by_actor : list_all (is_by a) s.events ≡ true

-- ---- events of an activation

-- an activation is itself by the test
pub self_by : (a : ℕ) → (a == a) ≡ true
self_by a = eq-eqb a a refl

pub uses_by : (a : ℕ) (needs : List (Option Object)) → list_all (is_by a) (uses a needs) ≡ true
uses_by a [] = refl
uses_by a (None ∷ needs) = uses_by a needs
uses_by a (Some o ∷ needs) = uses_by a needs

pub empties_by : (a : ℕ) (needs : List (Option Object)) → list_all (is_by a) (empties a needs) ≡ true
empties_by a [] = refl
empties_by a (None ∷ needs) = empties_by a needs
empties_by a (Some o ∷ needs) = empties_by a needs

pub append_by : (a : ℕ) (xs ys : List Event) → list_all (is_by a) xs ≡ true → list_all (is_by a) ys ≡ true →
    list_all (is_by a) (xs ++ ys) ≡ true
append_by a xs ys h k = list_all-append (is_by a) xs ys ∙ and_from (list_all (is_by a) xs) (list_all (is_by a) ys) h k

-- the events of a call are its own, the uses and those of its effect
called_by : (a : ℕ) (own : List Event) (needs : List (Option Object)) (es : List Event) → list_all (is_by a) own ≡ true →
    list_all (is_by a) es ≡ true → list_all (is_by a) (own ++ uses a needs ++ empties a needs ++ es) ≡ true
called_by a own needs es h k =
    append_by a (own ++ uses a needs ++ empties a needs) es
    (append_by a (own ++ uses a needs) (empties a needs) (append_by a own (uses a needs) h (uses_by a needs)) (empties_by a needs)) k

gains_by : (a : ℕ) (x : Option ℕ) → list_all (is_by a) (gains_context a x) ≡ true
gains_by a None = refl
gains_by a (Some x) = refl

loses_by : (a : ℕ) (x : Option ℕ) → list_all (is_by a) (loses_context a x) ≡ true
loses_by a None = refl
loses_by a (Some x) = refl

-- ---- either of two

-- what both sides of a choice give is given by the choice
pub if_same : {X Y : Type 0} (f : X → Y) (b : Bool) (x y : X) (u : Y) → f x ≡ u → f y ≡ u → f (if b then x else y) ≡ u
if_same f true x y u h k = h
if_same f false x y u h k = k

freed_by : (a : ℕ) (s : Store) (x : ℕ) → list_all (is_by a) (freed_by_drop s x) ≡ true
freed_by a s x =
    if_same (list_all (is_by a)) ((context_at s x).references == 1) (event.Free x ∷ []) [] true refl refl

unlinked_by : (a : ℕ) (s : Store) (x : ℕ) (old : Option ContextVariable) → list_all (is_by a) (events_of_unlink a s x old) ≡ true
unlinked_by a s x None = freed_by a s x
unlinked_by a s x (Some d) = refl

-- ---- stores with the same visits and arrivals

record SameStore (s u : Store) : Type 0 where
  visits : s.visits ≡ u.visits
  arrivals : s.arrivals ≡ u.arrivals

store_if : (b : Bool) (s t u : Store) → SameStore s u → SameStore t u → SameStore (if b then s else t) u
store_if true s t u h k = h
store_if false s t u h k = k

store_itself : (s : Store) → SameStore s s
store_itself s = record { visits = refl; arrivals = refl }

unlink_store : (s : Store) (x : ℕ) (old : Option ContextVariable) → SameStore (after_unlink s x old) s
unlink_store s x None = record { visits = refl; arrivals = refl }
unlink_store s x (Some d) = record { visits = refl; arrivals = refl }

put_store : (s : Store) (x value : ℕ) → SameStore (put_value s x value) s
put_store s x value =
    store_if (is_freed (context_at s x)) s (with_context s x (record (context_at s x) { value = value })) s (store_itself s)
    (record { visits = refl; arrivals = refl })

lead_store : (s : Store) (v : ℕ) (x : Option ℕ) (way : Way) → SameStore (lead s v x way) s
lead_store s v x way =
    let visit = visit_at s v in
    store_if (is_led s v) (with_route s visit.operation (led visit.filter x way (route_at s visit.operation))) s s
    (record { visits = refl; arrivals = refl }) (store_itself s)

settled_store : (s : Store) (v : ℕ) (x : Option ℕ) (way : Way) → SameStore (settled_by s v x way) s
settled_store s v x way =
    let h = lead_store s v x way in
    store_if (settles_visit way) (record (lead s v x way) { settled = set (lead s v x way).settled v true }) s s
    (record { visits = h.visits; arrivals = h.arrivals }) (store_itself s)

-- ---- `data` stays where a context or an operation that was taken out is written

old_data : (act : Activation) (old : Option ContextVariable) (x : Option ℕ) → operation_in (with_old act old x) Data ≡ operation_in act Data
old_data act None x = refl
old_data act (Some d) x = refl

removed_data : (act : Activation) (o : RemovedVariable) (v : Option ℕ) →
    operation_in (with_operation_in act (Removed o) v) Data ≡ operation_in act Data
removed_data act O0 v = get_or-set_other act.operations 0 4 v None (λ e. absurd (omega arith))
removed_data act O1 v = get_or-set_other act.operations 1 4 v None (λ e. absurd (omega arith))
removed_data act O2 v = get_or-set_other act.operations 2 4 v None (λ e. absurd (omega arith))
removed_data act O3 v = get_or-set_other act.operations 3 4 v None (λ e. absurd (omega arith))

-- ---- steps of an activation

module _ (w : World) (a : ℕ) where
  goes : (act : Activation) (s : Store) (es : List Event) → operation_in act Data ≡ operation_in (activation_at w a) Data →
      SameStore s w.store → list_all (is_by a) es ≡ true → Framed w a (goes_on w a act s es)
  goes act s es d h by = record {
    act = act;
    one_activation = refl;
    same_data = d;
    same_actors = refl;
    same_visits = h.visits;
    same_arrivals = h.arrivals;
    by_actor = by;
  }

  -- contexts, locks, queues and items are no visits and no arrivals
  goes_plain : (act : Activation) (s : Store) (es : List Event) → operation_in act Data ≡ operation_in (activation_at w a) Data →
      s.visits ≡ w.store.visits → s.arrivals ≡ w.store.arrivals → list_all (is_by a) es ≡ true → Framed w a (goes_on w a act s es)
  goes_plain act s es d v r by = goes act s es d (record { visits = v; arrivals = r }) by

  stays : (rest : List Statement) → Framed w a (unchanged w a rest)
  stays rest = goes (onward w a rest) w.store [] refl (store_itself w.store) refl

  gives_none : (old : Option ContextVariable) (rest : List Statement) → Framed w a (gives_nothing w a old rest)
  gives_none old rest =
      goes (with_old (onward w a rest) old None) w.store [] (old_data (onward w a rest) old None) (store_itself w.store) refl

  if_framed : (b : Bool) (s t : Step) → Framed w a s → Framed w a t → Framed w a (if b then s else t)
  if_framed true s t h k = h
  if_framed false s t h k = k

  needed : (needs : List (Option Object)) (effect : Step) → Framed w a effect → Framed w a (needing w a needs effect)
  needed needs effect h = record {
    act = h.act;
    one_activation = h.one_activation;
    same_data = h.same_data;
    same_actors = h.same_actors;
    same_visits = h.same_visits;
    same_arrivals = h.same_arrivals;
    by_actor = called_by a [] needs effect.events refl h.by_actor;
  }

  called : (k : Call) (own : List Event) (needs : List (Option Object)) (effect : Step) → list_all (is_by a) own ≡ true →
      Framed w a effect → Framed w a (calling w a k own needs effect)
  called k own needs effect by h = record {
    act = h.act;
    one_activation = h.one_activation;
    same_data = h.same_data;
    same_actors = h.same_actors;
    same_visits = h.same_visits;
    same_arrivals = h.same_arrivals;
    by_actor =
        and_from (a == a) (list_all (is_by a) (own ++ uses a needs ++ empties a needs ++ effect.events)) (self_by a)
        (called_by a own needs effect.events by h.by_actor);
  }

  abbrev here : Activation
  here = activation_at w a

  abbrev own_filter : ℕ
  own_filter = (actor_at w a).filter

  -- ---- reads

  value_read : (n : NumberVariable) (rest : List Statement) (x : Option ℕ) → Framed w a (read_value_of w a n rest x)
  value_read n rest None = stays rest
  value_read n rest (Some x) =
      goes (with_number (onward w a rest) n (context_at w.store x).value) w.store [] refl (store_itself w.store) refl

  value_written : (value : Atom) (rest : List Statement) (x : Option ℕ) → Framed w a (write_value_of w a value rest x)
  value_written value rest None = stays rest
  value_written value rest (Some x) =
      goes (onward w a rest) (put_value w.store x (atom_value here value)) [] refl (put_store w.store x (atom_value here value)) refl

  file_read : (n : NumberVariable) (rest : List Statement) (v : Option ℕ) → Framed w a (read_file_of w a n rest v)
  file_read n rest None = stays rest
  file_read n rest (Some v) =
      goes (with_number (onward w a rest) n (arrival_of w.store v).file) w.store [] refl (store_itself w.store) refl

  irp_tested : (holds fails : List Statement) (v : Option ℕ) → Framed w a (test_irp_of w a holds fails v)
  irp_tested holds fails None = stays fails
  irp_tested holds fails (Some v) = stays (if is_irp (arrival_of w.store v).mode then holds else fails)

  -- ---- contexts

  allocate_framed : (d : ContextVariable) (grant : Bool) (granted refused : List Statement) →
      Framed w a (allocate w a d grant granted refused)
  allocate_framed d grant granted refused =
      called _ [] [] (if grant then allocated w a d granted (length w.store.contexts) else gives_nothing w a (Some d) refused) refl
      (if_framed grant _ _ (goes_plain _ _ _ refl refl refl refl) (gives_none (Some d) refused))

  got_framed : (d : ContextVariable) (granted refused : List Statement) (x : Option ℕ) → Framed w a (got w a d granted refused x)
  got_framed d granted refused None = gives_none (Some d) refused
  got_framed d granted refused (Some x) = goes_plain _ _ _ refl refl refl refl

  get_by_framed : (d : ContextVariable) (granted refused : List Statement) (l : Option Link) →
      Framed w a (get_by w a d granted refused l)
  get_by_framed d granted refused None = stays refused
  get_by_framed d granted refused (Some l) = got_framed d granted refused (linked_at w.store l)

  get_framed : (on : Anchor) (d : ContextVariable) (granted refused : List Statement) → Framed w a (get w a on d granted refused)
  get_framed on d granted refused =
      let l = link_of w.store own_filter on (operation_in here Data) in
      called _ [] (needs_of on (operation_in here Data)) (get_by w a d granted refused l) refl (get_by_framed d granted refused l)

  kept_framed : (old : Option ContextVariable) (refused : List Statement) (y : ℕ) → Framed w a (kept w a old refused y)
  kept_framed None refused y = stays refused
  kept_framed (Some d) refused y = got_framed d refused refused (Some y)

  set_there_framed : (existing : Existing) (old : Option ContextVariable) (granted refused : List Statement) (x : ℕ) (l : Link)
      (y : Option ℕ) → Framed w a (set_there w a existing old granted refused x l y)
  set_there_framed existing old granted refused x l None =
      goes_plain _ _ _ (old_data (onward w a granted) old None) refl refl refl
  set_there_framed Keep old granted refused x l (Some y) = kept_framed old refused y
  set_there_framed Replace old granted refused x l (Some y) =
      goes_plain _ _ _ (old_data (onward w a granted) old (Some y)) (unlink_store w.store y old).visits
      (unlink_store w.store y old).arrivals (unlinked_by a w.store y old)

  set_by_framed : (existing : Existing) (old : Option ContextVariable) (granted refused : List Statement) (x : Option ℕ)
      (l : Option Link) → Framed w a (set_by w a existing old granted refused x l)
  set_by_framed existing old granted refused None l = stays refused
  set_by_framed existing old granted refused (Some x) None = stays refused
  set_by_framed existing old granted refused (Some x) (Some l) =
      if_framed (cannot_set w a x) (gives_nothing w a old refused) (set_there w a existing old granted refused x l (linked_at w.store l))
      (gives_none old refused) (set_there_framed existing old granted refused x l (linked_at w.store l))

  set_framed : (on : Anchor) (existing : Existing) (c : ContextVariable) (old : Option ContextVariable)
      (granted refused : List Statement) → Framed w a (set_context w a on existing c old granted refused)
  set_framed on existing c old granted refused =
      let l = link_of w.store own_filter on (operation_in here Data) in
      called _ [] (context (context_in here c) ∷ needs_of on (operation_in here Data))
      (set_by w a existing old granted refused (context_in here c) l) refl
      (set_by_framed existing old granted refused (context_in here c) l)

  unlinked_framed : (old : Option ContextVariable) (granted refused : List Statement) (y : Option ℕ) →
      Framed w a (unlinked w a old granted refused y)
  unlinked_framed old granted refused None = gives_none old refused
  unlinked_framed old granted refused (Some y) =
      goes _ _ _ (old_data (onward w a granted) old (Some y)) (unlink_store w.store y old) (unlinked_by a w.store y old)

  delete_by_framed : (old : Option ContextVariable) (granted refused : List Statement) (l : Option Link) →
      Framed w a (delete_by w a old granted refused l)
  delete_by_framed old granted refused None = stays refused
  delete_by_framed old granted refused (Some l) = unlinked_framed old granted refused (linked_at w.store l)

  delete_at_framed : (on : Anchor) (old : Option ContextVariable) (granted refused : List Statement) →
      Framed w a (delete_at w a on old granted refused)
  delete_at_framed on old granted refused =
      let l = link_of w.store own_filter on (operation_in here Data) in
      called _ [] (needs_of on (operation_in here Data)) (delete_by w a old granted refused l) refl
      (delete_by_framed old granted refused l)

  deleted_framed : (rest : List Statement) (x : Option ℕ) → Framed w a (deleted w a rest x)
  deleted_framed rest None = stays rest
  deleted_framed rest (Some x) =
      if_framed (is_some (context_at w.store x).link)
      (goes_on w a (onward w a rest) (after_unlink w.store x None) (freed_by_drop w.store x)) (unchanged w a rest)
      (goes _ _ _ refl (unlink_store w.store x None) (freed_by a w.store x)) (stays rest)

  delete_framed : (c : ContextVariable) (rest : List Statement) → Framed w a (delete w a c rest)
  delete_framed c rest =
      called _ [] (context (context_in here c) ∷ []) (deleted w a rest (context_in here c)) refl (deleted_framed rest (context_in here c))

  referenced_framed : (d : ContextVariable) (rest : List Statement) (x : Option ℕ) → Framed w a (referenced w a d rest x)
  referenced_framed d rest None = stays rest
  referenced_framed d rest (Some x) = got_framed d rest rest (Some x)

  reference_framed : (c d : ContextVariable) (rest : List Statement) → Framed w a (reference w a c d rest)
  reference_framed c d rest =
      called _ [] (context (context_in here c) ∷ []) (referenced w a d rest (context_in here c)) refl
      (referenced_framed d rest (context_in here c))

  released_framed : (rest : List Statement) (x : Option ℕ) → Framed w a (released w a rest x)
  released_framed rest None = stays rest
  released_framed rest (Some x) = goes_plain _ _ _ refl refl refl (freed_by a w.store x)

  release_framed : (c : ContextVariable) (rest : List Statement) → Framed w a (release w a c rest)
  release_framed c rest =
      called _ [] (context (context_in here c) ∷ []) (released w a rest (context_in here c)) refl
      (released_framed rest (context_in here c))

  -- ---- locks

  taken_framed : (l : LockNumber) (access : Access) (rest : List Statement) → Framed w a (taken w a l access rest)
  taken_framed l access rest = if_framed (holds_lock l here.locks) _ _ (stays rest) (goes_plain _ _ _ refl refl refl refl)

  acquire_framed : (k : LockKind) (l : LockNumber) (rest : List Statement) → Framed w a (acquire w a k l rest)
  acquire_framed k l rest =
      called _ (event.Lock a l ∷ []) [] (taken w a l Exclusive rest) (and_from (a == a) true (self_by a) refl)
      (taken_framed l Exclusive rest)

  acquire_shared_framed : (l : LockNumber) (rest : List Statement) → Framed w a (acquire_shared w a l rest)
  acquire_shared_framed l rest =
      called _ (event.Lock a l ∷ []) [] (taken w a l Shared rest) (and_from (a == a) true (self_by a) refl) (taken_framed l Shared rest)

  release_lock_framed : (k : LockKind) (l : LockNumber) (rest : List Statement) → Framed w a (release_lock w a k l rest)
  release_lock_framed k l rest =
      called _ (event.Unlock a l ∷ []) [] (given_up w a l rest) (and_from (a == a) true (self_by a) refl)
      (if_framed (holds_lock l here.locks) _ _ (goes_plain _ _ _ refl refl refl refl) (stays rest))

  -- ---- the queue and work items

  enqueued_framed : (granted refused : List Statement) (v : ℕ) (x : Option ℕ) → Framed w a (enqueued w a granted refused v x)
  enqueued_framed granted refused v x =
      if_framed (is_attached (presence_at w.store own_filter)) _ _ (goes_plain _ _ _ refl refl refl (loses_by a x)) (stays refused)

  insert_by_framed : (granted refused : List Statement) (v : Option ℕ) (c : Option (Option ℕ)) →
      Framed w a (insert_by w a granted refused v c)
  insert_by_framed granted refused None c = stays refused
  insert_by_framed granted refused (Some v) (Some None) = stays refused
  insert_by_framed granted refused (Some v) (Some (Some x)) = enqueued_framed granted refused v (Some x)
  insert_by_framed granted refused (Some v) None = enqueued_framed granted refused v None

  insert_framed : (c : Option ContextVariable) (granted refused : List Statement) → Framed w a (insert w a c granted refused)
  insert_framed c granted refused =
      let v = operation_in here Data in
      called _ [] (operation v ∷ optional (named_in here c)) (insert_by w a granted refused v (named_in here c)) refl
      (insert_by_framed granted refused v (named_in here c))

  removed_framed : (o : RemovedVariable) (d : ContextVariable) (granted refused : List Statement) (queue : List Entry) →
      Framed w a (removed w a o d granted refused queue)
  removed_framed o d granted refused [] = goes_plain _ _ _ (removed_data (onward w a refused) o None) refl refl refl
  removed_framed o d granted refused (e ∷ queue) =
      goes_plain _ _ _ (removed_data (onward w a granted) o (Some e.visit)) refl refl (gains_by a e.context)

  remove_framed : (o : RemovedVariable) (d : ContextVariable) (granted refused : List Statement) →
      Framed w a (remove_next w a o d granted refused)
  remove_framed o d granted refused =
      let queue = queue_at w.store own_filter in
      called _ [] [] (removed w a o d granted refused queue) refl (removed_framed o d granted refused queue)

  deferred_framed : (routine : ℕ) (grant : Bool) (granted refused : List Statement) (v : ℕ) (x : Option ℕ) →
      Framed w a (if grant then deferred w a routine granted v x else unchanged w a refused)
  deferred_framed routine grant granted refused v x =
      if_framed grant _ _ (goes_plain _ _ _ refl refl refl (loses_by a x)) (stays refused)

  defer_by_framed : (routine : ℕ) (grant : Bool) (granted refused : List Statement) (v : Option ℕ) (c : Option (Option ℕ)) →
      Framed w a (defer_by w a routine grant granted refused v c)
  defer_by_framed routine grant granted refused None c = stays refused
  defer_by_framed routine grant granted refused (Some v) (Some None) = stays refused
  defer_by_framed routine grant granted refused (Some v) (Some (Some x)) = deferred_framed routine grant granted refused v (Some x)
  defer_by_framed routine grant granted refused (Some v) None = deferred_framed routine grant granted refused v None

  defer_framed : (routine : ℕ) (c : Option ContextVariable) (grant : Bool) (granted refused : List Statement) →
      Framed w a (queue_deferred w a routine c grant granted refused)
  defer_framed routine c grant granted refused =
      let v = operation_in here Data in
      called _ [] (operation v ∷ optional (named_in here c)) (defer_by w a routine grant granted refused v (named_in here c)) refl
      (defer_by_framed routine grant granted refused v (named_in here c))

  queued_framed : (routine : ℕ) (grant : Bool) (granted refused : List Statement) (x : Option ℕ) →
      Framed w a (if grant then queued w a routine granted x else unchanged w a refused)
  queued_framed routine grant granted refused x =
      if_framed grant _ _ (goes_plain _ _ _ refl refl refl (loses_by a x)) (stays refused)

  queue_by_framed : (routine : ℕ) (grant : Bool) (granted refused : List Statement) (c : Option (Option ℕ)) →
      Framed w a (queue_by w a routine grant granted refused c)
  queue_by_framed routine grant granted refused (Some None) = stays refused
  queue_by_framed routine grant granted refused (Some (Some x)) = queued_framed routine grant granted refused (Some x)
  queue_by_framed routine grant granted refused None = queued_framed routine grant granted refused None

  queue_framed : (routine : ℕ) (c : Option ContextVariable) (grant : Bool) (granted refused : List Statement) →
      Framed w a (queue_generic w a routine c grant granted refused)
  queue_framed routine c grant granted refused =
      called _ [] (optional (named_in here c)) (queue_by w a routine grant granted refused (named_in here c)) refl
      (queue_by_framed routine grant granted refused (named_in here c))

  -- ---- completion

  module _ (p : List Filter) where
    completed_framed : (rest : List Statement) (v : ℕ) (x : Option ℕ) (answer : Answer) → Framed w a (completed w a p rest v x answer)
    completed_framed rest v x answer =
        let way = way_of p w.store v answer in
        goes _ _ _ refl (settled_store w.store v x way)
        (append_by a (if makes_frame w.store v way then loses_context a x else []) (event.Settle v ∷ [])
        (if_same (list_all (is_by a)) (makes_frame w.store v way) (loses_context a x) [] true (loses_by a x) refl) refl)

    status_by : (d : OperationVariable) (st : Status) (v : Option ℕ) → list_all (is_by a) (status_of w a p d st v) ≡ true
    status_by d st None = refl
    status_by d st (Some v) = and_from (a == a) true (self_by a) refl

    complete_by_framed : (d : OperationVariable) (st : Status) (rest : List Statement) (v : Option ℕ) (c : Option (Option ℕ)) →
        Framed w a (complete_by w a p d st rest v c)
    complete_by_framed d st rest None c = stays rest
    complete_by_framed d st rest (Some v) (Some None) = stays rest
    complete_by_framed d st rest (Some v) (Some (Some x)) = completed_framed rest v (Some x) (CompletesPre (whose d) v st)
    complete_by_framed d st rest (Some v) None = completed_framed rest v None (CompletesPre (whose d) v st)

    complete_framed : (d : OperationVariable) (st : Status) (rest : List Statement) → Framed w a (complete_pre w a p d st rest)
    complete_framed d st rest =
        let v = operation_in here d in
        let c = named_in here (context_of st) in
        called _ (status_of w a p d st v) (operation v ∷ optional c) (complete_by w a p d st rest v c) (status_by d st v)
        (complete_by_framed d st rest v c)

    status_post_by : (v : Option ℕ) → list_all (is_by a) (status_of_post w a p v) ≡ true
    status_post_by None = refl
    status_post_by (Some v) = and_from (a == a) true (self_by a) refl

    complete_post_by_framed : (rest : List Statement) (v : Option ℕ) → Framed w a (complete_post_by w a p rest v)
    complete_post_by_framed rest None = stays rest
    complete_post_by_framed rest (Some v) = completed_framed rest v None (CompletesPost v)

    complete_post_framed : (rest : List Statement) → Framed w a (complete_post w a p rest)
    complete_post_framed rest =
        let v = operation_in here Data in
        called _ (status_of_post w a p v) (operation v ∷ []) (complete_post_by w a p rest v) (status_post_by v)
        (complete_post_by_framed rest v)

    -- ---- the end

    module _ (t : List Event) where
      status_given_by : (st : Option Status) → list_all (is_by a) (status_given p t w a st) ≡ true
      status_given_by st =
          if_same (list_all (is_by a)) (answers (actor_at w a).place || is_some st) (event.Status a (Returned st) ∷ []) [] true
          (and_from (a == a) true (self_by a) refl) refl

      context_used_by : (st : Option Status) → list_all (is_by a) (context_used p t w a st) ≡ true
      context_used_by st =
          let needs = optional (named_in here (named_context st)) in
          append_by a (uses a needs) (empties a needs) (uses_by a needs) (empties_by a needs)

      given_back_by : (v : ℕ) (x : Option ℕ) (way : Way) → list_all (is_by a) (visit_given_back p t w a v x way) ≡ true
      given_back_by v x way =
          let lost = if is_held t a (Visit v) then event.Lose a (Visit v) ∷ [] else [] in
          let handed = if makes_frame w.store v way then loses_context a x else [] in
          let settled = if settles_visit way then event.Settle v ∷ [] else [] in
          append_by a (lost ++ handed) settled
          (append_by a lost handed (if_same (list_all (is_by a)) (is_held t a (Visit v)) (event.Lose a (Visit v) ∷ []) [] true refl refl)
          (if_same (list_all (is_by a)) (makes_frame w.store v way) (loses_context a x) [] true (loses_by a x) refl))
          (if_same (list_all (is_by a)) (settles_visit way) (event.Settle v ∷ []) [] true refl refl)

      ends_framed : (s : Store) (es : List Event) → SameStore s w.store → list_all (is_by a) es ≡ true → Framed w a (ends p t w a s es)
      ends_framed s es h by = record {
        act = record here { rest = []; ended = true };
        one_activation = refl;
        same_data = refl;
        same_actors = refl;
        same_visits = h.visits;
        same_arrivals = h.arrivals;
        by_actor = append_by a es (event.End a ∷ []) by (and_from (a == a) true (self_by a) refl);
      }

      ends_plain : (st : Option Status) → Framed w a (ends p t w a w.store (status_given p t w a st ++ context_used p t w a st))
      ends_plain st =
          ends_framed w.store (status_given p t w a st ++ context_used p t w a st) (store_itself w.store)
          (append_by a (status_given p t w a st) (context_used p t w a st) (status_given_by st) (context_used_by st))

      returned_framed : (st : Option Status) (b : Bool) (v : Option ℕ) → Framed w a (returned p t w a st b v)
      returned_framed st true (Some v) =
          let x = there (named_in here (named_context st)) in
          let way = way_of p w.store v (Returned st) in
          ends_framed (settled_by w.store v x way)
          (status_given p t w a st ++ context_used p t w a st ++ visit_given_back p t w a v x way) (settled_store w.store v x way)
          (append_by a (status_given p t w a st ++ context_used p t w a st) (visit_given_back p t w a v x way)
          (append_by a (status_given p t w a st) (context_used p t w a st) (status_given_by st) (context_used_by st))
          (given_back_by v x way))
      returned_framed st true None = ends_plain st
      returned_framed st false v = ends_plain st

      returns_framed : (st : Option Status) → Framed w a (returns p t w a st)
      returns_framed st = returned_framed st (answers (actor_at w a).place) (operation_in here Data)

      -- ---- any step

      plain_framed : (rest : List Statement) (c : PlainCall) → Framed w a (plain_step p t w a rest c)
      plain_framed rest (plain.DeleteContext c) = delete_framed c rest
      plain_framed rest (plain.ReferenceContext c d) = reference_framed c d rest
      plain_framed rest (plain.ReleaseContext c) = release_framed c rest
      plain_framed rest (plain.AcquireLock k l) = acquire_framed k l rest
      plain_framed rest (plain.AcquirePushLockShared l) = acquire_shared_framed l rest
      plain_framed rest (plain.ReleaseLock k l) = release_lock_framed k l rest
      plain_framed rest (plain.CompletePendedPreOperation d st) = complete_framed d st rest
      plain_framed rest plain.CompletePendedPostOperation = complete_post_framed rest

      fallible_framed : (grant : Bool) (granted refused : List Statement) (c : FallibleCall Routine) →
          Framed w a (fallible_step p t w a grant granted refused c)
      fallible_framed grant granted refused (fallible.AllocateContext d) = allocate_framed d grant granted refused
      fallible_framed grant granted refused (fallible.GetContext on d) = get_framed on d granted refused
      fallible_framed grant granted refused (fallible.SetContext on existing c old) = set_framed on existing c old granted refused
      fallible_framed grant granted refused (fallible.DeleteContextOf on old) = delete_at_framed on old granted refused
      fallible_framed grant granted refused (fallible.InsertIo c) = insert_framed c granted refused
      fallible_framed grant granted refused (fallible.RemoveNextIo o d) = remove_framed o d granted refused
      fallible_framed grant granted refused (fallible.QueueDeferredIoWorkItem r c) =
          defer_framed (routine_of (callbacks_at p own_filter) r) c grant granted refused
      fallible_framed grant granted refused (fallible.QueueGenericWorkItem r c) =
          queue_framed (routine_of (callbacks_at p own_filter) r) c grant granted refused

      each_framed : OfEach p t w a (λ s. Framed w a s)
      each_framed = record {
        of_value_read = λ n c rest. needed (context (context_in here c) ∷ []) (read_value_of w a n rest (context_in here c))
            (value_read n rest (context_in here c));
        of_value_written = λ c x rest. needed (context (context_in here c) ∷ []) (write_value_of w a x rest (context_in here c))
            (value_written x rest (context_in here c));
        of_file_read = λ n d rest. needed (operation (operation_in here d) ∷ []) (read_file_of w a n rest (operation_in here d))
            (file_read n rest (operation_in here d));
        of_irp_test = λ holds fails. needed (operation (operation_in here Data) ∷ [])
            (test_irp_of w a holds fails (operation_in here Data)) (irp_tested holds fails (operation_in here Data));
        of_plain_call = plain_framed;
        of_fallible_call = fallible_framed;
        of_return = returns_framed;
      }

-- ---- a step that others see

-- nobody has ended, so the activation of a step is there
pub record Stepped (w : World) (a : ℕ) (s : Step) : Type 0 where
  pub framed : Framed w a s
  pub goes : (activation_at w a).ended ≡ false
  pub within : a < length w.activations

-- an activation that hasn't ended is there
pub there_from : (acts : List Activation) (a : ℕ) → (get_or acts a nobody).ended ≡ false → a < length acts
there_from acts a e =
    elim (cases_lt a (length acts)) [
      | inl h ↦ h
      | inr h ↦ absurd (let past : get_or acts a nobody ≡ nobody = get_or_past acts a nobody h in
          true≢false (sym (ap (λ (n : Activation). n.ended) past) ∙ e))
    ]

module _ (p : List Filter) (t : List Event) (w : World) (a : ℕ) (grant : Bool) (s : Step) where
  stepped_by : (b : Bool) → (activation_at w a).ended ≡ b →
      (if b then None else list_step p t w a (activation_at w a).rest grant) ≡ Some s → Stepped w a s
  stepped_by true h e = absurd (cc)
  stepped_by false h e = record {
    framed = of_list p t w a (λ r. Framed w a r) (each_framed w a p t) (activation_at w a).rest grant s e;
    goes = h;
    within = there_from w.activations a h;
  }

  -- a step that others see is of an activation that is there and goes on, and changes nothing else
  pub stepped : board p t w a grant ≡ Some s → Stepped w a s
  stepped e = stepped_by (activation_at w a).ended refl e
