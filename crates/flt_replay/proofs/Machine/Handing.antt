-- What a step of an activation does with visits: none but those that its events name change their places, and what it gains and
-- loses is its own. It ends where an event says so.
use Rattle.std.proofs.Common.{◌≡◌, ℕ, Bool, true, false, List, [], ◌∷◌, ◌++◌, Option, Some, None, length, ap, sym, refl, ◌∙◌}
use Rattle.std.proofs.Math.ListN.{set}
use Rattle.std.proofs.lemmas.Bool.{and_from, and_parts}
use Rattle.std.proofs.lemmas.List.{get_or-set_other, length-set}
use Rattle.std.proofs.lemmas.List.Folds.{list_all-append, list_any-append}
use Rattle.std.proofs.Math.Bool.{or-true}
use Rattle.std.specs.List.{list_all, list_any}
use Rattle.std.specs.Prelude.{not, ◌&&◌, ◌||◌, ◌==◌, if◌then◌else◌, is_some}
use Rattle.flt_rules.specs.Held.{holds_lock}
use Rattle.flt_rules.specs.Place.{answers, is_irp}
use Rattle.flt_rules.specs.declared.call.Anchor.{Anchor}
use Rattle.flt_rules.specs.declared.call.Call.{Call}
use Rattle.flt_rules.specs.declared.call.Existing.{Existing}
use Rattle.flt_rules.specs.declared.call.Existing.TheVariants.{Keep, Replace}
use Rattle.flt_rules.specs.declared.call.LockKind.{LockKind}
use Rattle.flt_rules.specs.declared.call.LockNumber.{LockNumber}
use Rattle.flt_rules.specs.declared.held.Access.{Access}
use Rattle.flt_rules.specs.declared.held.Access.TheVariants.{Exclusive, Shared}
use Rattle.flt_tree.specs.Filter.{context_of, named_context}
use Rattle.flt_tree.specs.Variable.{whose}
use Rattle.flt_tree.specs.declared.filter.FallibleCall.{FallibleCall}
use Rattle.flt_tree.specs.declared.filter.FallibleCall.TheVariants as fallible
use Rattle.flt_tree.specs.declared.filter.Filter.{Filter}
use Rattle.flt_tree.specs.declared.filter.PlainCall.{PlainCall}
use Rattle.flt_tree.specs.declared.filter.PlainCall.TheVariants as plain
use Rattle.flt_tree.specs.declared.filter.Routine.{Routine}
use Rattle.flt_tree.specs.declared.filter.Statement.{Statement}
use Rattle.flt_tree.specs.declared.filter.Status.{Status}
use Rattle.flt_tree.specs.declared.variable.Atom.{Atom}
use Rattle.flt_tree.specs.declared.variable.ContextVariable.{ContextVariable}
use Rattle.flt_tree.specs.declared.variable.NumberVariable.{NumberVariable}
use Rattle.flt_tree.specs.declared.variable.OperationVariable.{OperationVariable}
use Rattle.flt_tree.specs.declared.variable.OperationVariable.TheVariants.{Data}
use Rattle.flt_tree.specs.declared.variable.RemovedVariable.{RemovedVariable}
use Rattle.flt_model.specs.declared.event.Answer.{Answer}
use Rattle.flt_model.specs.declared.event.Answer.TheVariants.{Returned, CompletesPre, CompletesPost}
use Rattle.flt_model.specs.declared.event.Event.{Event}
use Rattle.flt_model.specs.declared.event.Event.TheVariants as event
use Rattle.flt_model.specs.declared.event.Object.{Object}
use Rattle.flt_model.specs.declared.event.Object.TheVariants.{Visit}
use Rattle.flt_model.specs.Calls.{needs_of, link_of, set_there, set_by, cannot_set, got, kept, get_by, allocate, allocated, get}
use Rattle.flt_model.specs.Calls.{set_context, unlinked, delete_by, delete_at, deleted, delete, referenced, reference, released}
use Rattle.flt_model.specs.Calls.{release, taken, acquire, acquire_shared, given_up, release_lock, enqueued, insert_by, insert, removed}
use Rattle.flt_model.specs.Calls.{remove_next, deferred, defer_by, queue_deferred, queued, queue_by, queue_generic, completed, status_of}
use Rattle.flt_model.specs.Calls.{complete_by, complete_pre, status_of_post, complete_post_by, complete_post}
use Rattle.flt_model.specs.Effects.{Step, context, operation, optional, uses, empties, gains_context, loses_context, freed_by_drop}
use Rattle.flt_model.specs.Effects.{after_unlink, events_of_unlink, onward, goes_on, unchanged, gives_nothing, needing, calling}
use Rattle.flt_model.specs.Program.{callbacks_at, routine_of}
use Rattle.flt_model.specs.Reads.{put_value, read_value_of, write_value_of, read_file_of, test_irp_of}
use Rattle.flt_model.specs.Returns.{ends, status_given, context_used, visit_given_back, returned, returns, there}
use Rattle.flt_model.specs.declared.settling.Way.{Way}
use Rattle.flt_model.specs.Settling.{led, way_of, settles_visit, makes_frame, is_led, lead, settled_by}
use Rattle.flt_model.specs.Steps.{plain_step, fallible_step, list_step, board}
use Rattle.flt_model.specs.Trace.{is_held}
use Rattle.flt_model.specs.Variables.{operation_in, context_in, named_in, atom_value, with_number, with_old}
use Rattle.flt_model.specs.declared.parts.Entry.{Entry}
use Rattle.flt_model.specs.declared.parts.Item.{Item}
use Rattle.flt_model.specs.declared.parts.Link.{Link}
use Rattle.flt_model.specs.World.{World, Store, Activation, activation_at, actor_at, is_attached, presence_at, queue_at}
use Rattle.flt_model.specs.World.{context_at, is_freed, linked_at, arrival_of, visit_at, route_at, with_context, with_route}
use Rattle.flt_model.specs.Violations.{in_queue, in_item}
use Rattle.flt_replay.proofs.Machine.Apart.{apart_numbers, one_if_apart, Unmoved, unmoved_itself, unmoved_if, unmoved_same}
use Rattle.flt_replay.proofs.Machine.Apart.{SameParts, same_itself, parts_if, sum_set, sum_push, queue_push, queue_front}
use Rattle.flt_replay.proofs.Machine.EachStep.{OfEach, of_list}
use Rattle.flt_replay.proofs.Machine.Frames.{self_by, if_same}
use Rattle.flt_replay.proofs.Machine.MoveRules.{all_pass}
use Rattle.flt_replay.specs.Apart.{is_apart, is_end_of}

-- ---- tests of events

-- the activation's own: what it gains and loses, and its end
abbrev pub is_handed_by : ℕ → Event → Bool
is_handed_by a (event.Gain b o) = b == a
is_handed_by a (event.Lose b o) = b == a
is_handed_by a (event.End b) = b == a
is_handed_by a _ = true

-- the same of events before an end
abbrev is_going : ℕ → Event → Bool
is_going a (event.Gain b o) = b == a
is_going a (event.Lose b o) = b == a
is_going a (event.End b) = false
is_going a _ = true

pub record Handed (w : World) (a : ℕ) (s : Step) : Type 0 where
  pub act : Activation
  pub one_activation : s.world.activations ≡ set w.activations a act
  pub flag : act.ended ≡ (list_any (is_end_of a) s.events || (activation_at w a).ended)
  pub own : list_all (is_handed_by a) s.events ≡ true
  pub unmoved : (v : ℕ) → list_all (is_apart v) s.events ≡ true → Unmoved v w.store s.world.store
  pub settled_length : length s.world.store.settled ≡ length w.store.settled

uses_going : (a : ℕ) (needs : List (Option Object)) → list_all (is_going a) (uses a needs) ≡ true
uses_going a [] = refl
uses_going a (None ∷ needs) = uses_going a needs
uses_going a (Some o ∷ needs) = uses_going a needs

empties_going : (a : ℕ) (needs : List (Option Object)) → list_all (is_going a) (empties a needs) ≡ true
empties_going a [] = refl
empties_going a (None ∷ needs) = empties_going a needs
empties_going a (Some o ∷ needs) = empties_going a needs

append_going : (a : ℕ) (xs ys : List Event) → list_all (is_going a) xs ≡ true → list_all (is_going a) ys ≡ true →
    list_all (is_going a) (xs ++ ys) ≡ true
append_going a xs ys h k = list_all-append (is_going a) xs ys ∙ and_from (list_all (is_going a) xs) (list_all (is_going a) ys) h k

-- the activation's own gain or loss before other events
first_going : (a : ℕ) (es : List Event) → list_all (is_going a) es ≡ true → ((a == a) && list_all (is_going a) es) ≡ true
first_going a es h = and_from (a == a) (list_all (is_going a) es) (self_by a) h

gains_going : (a : ℕ) (x : Option ℕ) → list_all (is_going a) (gains_context a x) ≡ true
gains_going a None = refl
gains_going a (Some x) = first_going a [] refl

loses_going : (a : ℕ) (x : Option ℕ) → list_all (is_going a) (loses_context a x) ≡ true
loses_going a None = refl
loses_going a (Some x) = first_going a [] refl

freed_going : (a : ℕ) (s : Store) (x : ℕ) → list_all (is_going a) (freed_by_drop s x) ≡ true
freed_going a s x = if_same (list_all (is_going a)) ((context_at s x).references == 1) (event.Free x ∷ []) [] true refl refl

unlinked_going : (a : ℕ) (s : Store) (x : ℕ) (old : Option ContextVariable) → list_all (is_going a) (events_of_unlink a s x old) ≡ true
unlinked_going a s x None = freed_going a s x
unlinked_going a s x (Some d) = first_going a [] refl

going_handed_one : (a : ℕ) (e : Event) → is_going a e ≡ true → is_handed_by a e ≡ true
going_handed_one a (event.Gain b o) h = h
going_handed_one a (event.Lose b o) h = h
going_handed_one a (event.End b) h = absurd (cc)
going_handed_one a _ h = refl

going_handed : (a : ℕ) (es : List Event) → list_all (is_going a) es ≡ true → list_all (is_handed_by a) es ≡ true
going_handed a es h = all_pass (is_going a) (is_handed_by a) (going_handed_one a) es h

going_end : (a : ℕ) (e : Event) → is_going a e ≡ true → is_end_of a e ≡ false
going_end a (event.End b) h = absurd (cc)
going_end a _ h = refl

-- no end is among events that go on
ends_past : (a : ℕ) (pre es : List Event) → list_all (is_going a) pre ≡ true →
    list_any (is_end_of a) (pre ++ es) ≡ list_any (is_end_of a) es
ends_past a [] es h = refl
ends_past a (e ∷ pre) es h =
    let parts = and_parts (is_going a e) (list_all (is_going a) pre) h in
    ap (λ b. b || list_any (is_end_of a) (pre ++ es)) (going_end a e parts.0) ∙ ends_past a pre es parts.1

no_end : (a : ℕ) (es : List Event) → list_all (is_going a) es ≡ true → list_any (is_end_of a) es ≡ false
no_end a [] h = refl
no_end a (e ∷ es) h =
    let parts = and_parts (is_going a e) (list_all (is_going a) es) h in
    ap (λ b. b || list_any (is_end_of a) es) (going_end a e parts.0) ∙ no_end a es parts.1

ends_last : (a : ℕ) (es : List Event) → list_any (is_end_of a) (es ++ event.End a ∷ []) ≡ true
ends_last a es =
    list_any-append (is_end_of a) es (event.End a ∷ [])
    ∙ (ap (λ b. list_any (is_end_of a) es || (b || false)) (self_by a) ∙ or-true (list_any (is_end_of a) es))

last_part : (test : Event → Bool) (xs ys : List Event) → list_all test (xs ++ ys) ≡ true → list_all test ys ≡ true
last_part test xs ys h = (and_parts (list_all test xs) (list_all test ys) (sym (list_all-append test xs ys) ∙ h)).1

-- ---- stores

unlink_store : (s : Store) (x : ℕ) (old : Option ContextVariable) → SameParts (after_unlink s x old) s
unlink_store s x None = record { queues = refl; items = refl; settled = refl }
unlink_store s x (Some d) = record { queues = refl; items = refl; settled = refl }

put_store : (s : Store) (x value : ℕ) → SameParts (put_value s x value) s
put_store s x value =
    parts_if (is_freed (context_at s x)) s (with_context s x (record (context_at s x) { value = value })) s (same_itself s)
    (record { queues = refl; items = refl; settled = refl })

lead_store : (s : Store) (v : ℕ) (x : Option ℕ) (way : Way) → SameParts (lead s v x way) s
lead_store s v x way =
    let visit = visit_at s v in
    parts_if (is_led s v) (with_route s visit.operation (led visit.filter x way (route_at s visit.operation))) s s
    (record { queues = refl; items = refl; settled = refl }) (same_itself s)

-- the store where the visit is led and settled
abbrev settled_store : Store → ℕ → Option ℕ → Way → Store
settled_store s v x way = record (lead s v x way) { settled = set (lead s v x way).settled v true }

settled_other : (u : ℕ) (s : Store) (v : ℕ) (x : Option ℕ) (way : Way) → not (v == u) ≡ true → Unmoved u s (settled_store s v x way)
settled_other u s v x way h =
    let k = unmoved_same u (lead s v x way) s (lead_store s v x way) in
    record {
      in_queues = k.in_queues;
      in_items = k.in_items;
      settled = get_or-set_other (lead s v x way).settled v u true true (apart_numbers v u h) ∙ k.settled;
    }

settled_unmoved : (u : ℕ) (s : Store) (v : ℕ) (x : Option ℕ) (way : Way) → not (v == u) ≡ true → Unmoved u s (settled_by s v x way)
settled_unmoved u s v x way h =
    unmoved_if (settles_visit way) u (settled_store s v x way) s s (settled_other u s v x way h) (unmoved_itself u s)

-- it is settled only where an event says so
settled_apart : (u : ℕ) (s : Store) (v : ℕ) (x : Option ℕ) (way : Way) (b : Bool) →
    list_all (is_apart u) (if b then event.Settle v ∷ [] else []) ≡ true → Unmoved u s (if b then settled_store s v x way else s)
settled_apart u s v x way true h = settled_other u s v x way (and_parts (not (v == u)) true h).0
settled_apart u s v x way false h = unmoved_itself u s

settled_stays : (s : Store) (v : ℕ) (x : Option ℕ) (way : Way) → length (settled_by s v x way).settled ≡ length s.settled
settled_stays s v x way =
    if_same (λ (q : Store). length q.settled) (settles_visit way) (settled_store s v x way) s (length s.settled)
    (length-set (lead s v x way).settled v true ∙ ap length (lead_store s v x way).settled) refl

-- ---- the activation goes on, whatever its variables are

old_ended : (act : Activation) (old : Option ContextVariable) (x : Option ℕ) → (with_old act old x).ended ≡ act.ended
old_ended act None x = refl
old_ended act (Some d) x = refl

-- ---- steps of an activation

module _ (w : World) (a : ℕ) where
  hands : (act : Activation) (s : Store) (es : List Event) → act.ended ≡ (activation_at w a).ended →
      list_all (is_going a) es ≡ true → ((v : ℕ) → list_all (is_apart v) es ≡ true → Unmoved v w.store s) →
      length s.settled ≡ length w.store.settled → Handed w a (goes_on w a act s es)
  hands act s es e going h k = record {
    act = act;
    one_activation = refl;
    flag = e ∙ ap (λ b. b || (activation_at w a).ended) (sym (no_end a es going));
    own = going_handed a es going;
    unmoved = h;
    settled_length = k;
  }

  goes : (act : Activation) (s : Store) (es : List Event) → act.ended ≡ (activation_at w a).ended → SameParts s w.store →
      list_all (is_going a) es ≡ true → Handed w a (goes_on w a act s es)
  goes act s es e h going = hands act s es e going (λ v k. unmoved_same v s w.store h) (ap length h.settled)

  goes_plain : (act : Activation) (s : Store) (es : List Event) → act.ended ≡ (activation_at w a).ended →
      s.queues ≡ w.store.queues → s.items ≡ w.store.items → s.settled ≡ w.store.settled → list_all (is_going a) es ≡ true →
      Handed w a (goes_on w a act s es)
  goes_plain act s es e q i d going = goes act s es e (record { queues = q; items = i; settled = d }) going

  stays : (rest : List Statement) → Handed w a (unchanged w a rest)
  stays rest = goes (onward w a rest) w.store [] refl (same_itself w.store) refl

  gives_none : (old : Option ContextVariable) (rest : List Statement) → Handed w a (gives_nothing w a old rest)
  gives_none old rest =
      goes (with_old (onward w a rest) old None) w.store [] (old_ended (onward w a rest) old None) (same_itself w.store) refl

  if_handed : (b : Bool) (s t : Step) → Handed w a s → Handed w a t → Handed w a (if b then s else t)
  if_handed true s t h k = h
  if_handed false s t h k = k

  wrapped : (pre : List Event) (effect : Step) → list_all (is_going a) pre ≡ true → Handed w a effect →
      Handed w a (record effect { events = pre ++ effect.events })
  wrapped pre effect going h = record {
    act = h.act;
    one_activation = h.one_activation;
    flag = h.flag ∙ ap (λ b. b || (activation_at w a).ended) (sym (ends_past a pre effect.events going));
    own =
        list_all-append (is_handed_by a) pre effect.events
        ∙ and_from (list_all (is_handed_by a) pre) (list_all (is_handed_by a) effect.events) (going_handed a pre going) h.own;
    unmoved =
        λ v k.
        h.unmoved v
        (and_parts (list_all (is_apart v) pre) (list_all (is_apart v) effect.events)
        (sym (list_all-append (is_apart v) pre effect.events) ∙ k)).1;
    settled_length = h.settled_length;
  }

  needed : (needs : List (Option Object)) (effect : Step) → Handed w a effect → Handed w a (needing w a needs effect)
  needed needs effect h =
      wrapped (uses a needs ++ empties a needs) effect
      (append_going a (uses a needs) (empties a needs) (uses_going a needs) (empties_going a needs)) h

  called : (k : Call) (own : List Event) (needs : List (Option Object)) (effect : Step) → list_all (is_going a) own ≡ true →
      Handed w a effect → Handed w a (calling w a k own needs effect)
  called k own needs effect going h =
      wrapped (event.Call a k ∷ own ++ uses a needs ++ empties a needs) effect
      (append_going a (own ++ uses a needs) (empties a needs) (append_going a own (uses a needs) going (uses_going a needs))
      (empties_going a needs)) h

  abbrev here : Activation
  here = activation_at w a

  abbrev own_filter : ℕ
  own_filter = (actor_at w a).filter

  -- ---- reads

  value_read : (n : NumberVariable) (rest : List Statement) (x : Option ℕ) → Handed w a (read_value_of w a n rest x)
  value_read n rest None = stays rest
  value_read n rest (Some x) =
      goes (with_number (onward w a rest) n (context_at w.store x).value) w.store [] refl (same_itself w.store) refl

  value_written : (value : Atom) (rest : List Statement) (x : Option ℕ) → Handed w a (write_value_of w a value rest x)
  value_written value rest None = stays rest
  value_written value rest (Some x) =
      goes (onward w a rest) (put_value w.store x (atom_value here value)) [] refl (put_store w.store x (atom_value here value)) refl

  file_read : (n : NumberVariable) (rest : List Statement) (v : Option ℕ) → Handed w a (read_file_of w a n rest v)
  file_read n rest None = stays rest
  file_read n rest (Some v) =
      goes (with_number (onward w a rest) n (arrival_of w.store v).file) w.store [] refl (same_itself w.store) refl

  irp_tested : (holds fails : List Statement) (v : Option ℕ) → Handed w a (test_irp_of w a holds fails v)
  irp_tested holds fails None = stays fails
  irp_tested holds fails (Some v) = stays (if is_irp (arrival_of w.store v).mode then holds else fails)

  -- ---- contexts

  allocate_handed : (d : ContextVariable) (grant : Bool) (granted refused : List Statement) →
      Handed w a (allocate w a d grant granted refused)
  allocate_handed d grant granted refused =
      called _ [] [] (if grant then allocated w a d granted (length w.store.contexts) else gives_nothing w a (Some d) refused) refl
      (if_handed grant _ _ (goes_plain _ _ _ refl refl refl refl (first_going a [] refl)) (gives_none (Some d) refused))

  got_handed : (d : ContextVariable) (granted refused : List Statement) (x : Option ℕ) → Handed w a (got w a d granted refused x)
  got_handed d granted refused None = gives_none (Some d) refused
  got_handed d granted refused (Some x) = goes_plain _ _ _ refl refl refl refl (first_going a [] refl)

  get_by_handed : (d : ContextVariable) (granted refused : List Statement) (l : Option Link) →
      Handed w a (get_by w a d granted refused l)
  get_by_handed d granted refused None = stays refused
  get_by_handed d granted refused (Some l) = got_handed d granted refused (linked_at w.store l)

  get_handed : (on : Anchor) (d : ContextVariable) (granted refused : List Statement) → Handed w a (get w a on d granted refused)
  get_handed on d granted refused =
      let l = link_of w.store own_filter on (operation_in here Data) in
      called _ [] (needs_of on (operation_in here Data)) (get_by w a d granted refused l) refl (get_by_handed d granted refused l)

  kept_handed : (old : Option ContextVariable) (refused : List Statement) (y : ℕ) → Handed w a (kept w a old refused y)
  kept_handed None refused y = stays refused
  kept_handed (Some d) refused y = got_handed d refused refused (Some y)

  set_there_handed : (existing : Existing) (old : Option ContextVariable) (granted refused : List Statement) (x : ℕ) (l : Link)
      (y : Option ℕ) → Handed w a (set_there w a existing old granted refused x l y)
  set_there_handed existing old granted refused x l None =
      goes_plain _ _ _ (old_ended (onward w a granted) old None) refl refl refl refl
  set_there_handed Keep old granted refused x l (Some y) = kept_handed old refused y
  set_there_handed Replace old granted refused x l (Some y) =
      goes_plain _ _ _ (old_ended (onward w a granted) old (Some y)) (unlink_store w.store y old).queues
      (unlink_store w.store y old).items (unlink_store w.store y old).settled (unlinked_going a w.store y old)

  set_by_handed : (existing : Existing) (old : Option ContextVariable) (granted refused : List Statement) (x : Option ℕ)
      (l : Option Link) → Handed w a (set_by w a existing old granted refused x l)
  set_by_handed existing old granted refused None l = stays refused
  set_by_handed existing old granted refused (Some x) None = stays refused
  set_by_handed existing old granted refused (Some x) (Some l) =
      if_handed (cannot_set w a x) (gives_nothing w a old refused) (set_there w a existing old granted refused x l (linked_at w.store l))
      (gives_none old refused) (set_there_handed existing old granted refused x l (linked_at w.store l))

  set_handed : (on : Anchor) (existing : Existing) (c : ContextVariable) (old : Option ContextVariable)
      (granted refused : List Statement) → Handed w a (set_context w a on existing c old granted refused)
  set_handed on existing c old granted refused =
      let l = link_of w.store own_filter on (operation_in here Data) in
      called _ [] (context (context_in here c) ∷ needs_of on (operation_in here Data))
      (set_by w a existing old granted refused (context_in here c) l) refl
      (set_by_handed existing old granted refused (context_in here c) l)

  unlinked_handed : (old : Option ContextVariable) (granted refused : List Statement) (y : Option ℕ) →
      Handed w a (unlinked w a old granted refused y)
  unlinked_handed old granted refused None = gives_none old refused
  unlinked_handed old granted refused (Some y) =
      goes _ _ _ (old_ended (onward w a granted) old (Some y)) (unlink_store w.store y old) (unlinked_going a w.store y old)

  delete_by_handed : (old : Option ContextVariable) (granted refused : List Statement) (l : Option Link) →
      Handed w a (delete_by w a old granted refused l)
  delete_by_handed old granted refused None = stays refused
  delete_by_handed old granted refused (Some l) = unlinked_handed old granted refused (linked_at w.store l)

  delete_at_handed : (on : Anchor) (old : Option ContextVariable) (granted refused : List Statement) →
      Handed w a (delete_at w a on old granted refused)
  delete_at_handed on old granted refused =
      let l = link_of w.store own_filter on (operation_in here Data) in
      called _ [] (needs_of on (operation_in here Data)) (delete_by w a old granted refused l) refl
      (delete_by_handed old granted refused l)

  deleted_handed : (rest : List Statement) (x : Option ℕ) → Handed w a (deleted w a rest x)
  deleted_handed rest None = stays rest
  deleted_handed rest (Some x) =
      if_handed (is_some (context_at w.store x).link)
      (goes_on w a (onward w a rest) (after_unlink w.store x None) (freed_by_drop w.store x)) (unchanged w a rest)
      (goes _ _ _ refl (unlink_store w.store x None) (freed_going a w.store x)) (stays rest)

  delete_handed : (c : ContextVariable) (rest : List Statement) → Handed w a (delete w a c rest)
  delete_handed c rest =
      called _ [] (context (context_in here c) ∷ []) (deleted w a rest (context_in here c)) refl (deleted_handed rest (context_in here c))

  referenced_handed : (d : ContextVariable) (rest : List Statement) (x : Option ℕ) → Handed w a (referenced w a d rest x)
  referenced_handed d rest None = stays rest
  referenced_handed d rest (Some x) = got_handed d rest rest (Some x)

  reference_handed : (c d : ContextVariable) (rest : List Statement) → Handed w a (reference w a c d rest)
  reference_handed c d rest =
      called _ [] (context (context_in here c) ∷ []) (referenced w a d rest (context_in here c)) refl
      (referenced_handed d rest (context_in here c))

  released_handed : (rest : List Statement) (x : Option ℕ) → Handed w a (released w a rest x)
  released_handed rest None = stays rest
  released_handed rest (Some x) = goes_plain _ _ _ refl refl refl refl (first_going a (freed_by_drop w.store x) (freed_going a w.store x))

  release_handed : (c : ContextVariable) (rest : List Statement) → Handed w a (release w a c rest)
  release_handed c rest =
      called _ [] (context (context_in here c) ∷ []) (released w a rest (context_in here c)) refl
      (released_handed rest (context_in here c))

  -- ---- locks

  taken_handed : (l : LockNumber) (access : Access) (rest : List Statement) → Handed w a (taken w a l access rest)
  taken_handed l access rest = if_handed (holds_lock l here.locks) _ _ (stays rest) (goes_plain _ _ _ refl refl refl refl refl)

  acquire_handed : (k : LockKind) (l : LockNumber) (rest : List Statement) → Handed w a (acquire w a k l rest)
  acquire_handed k l rest =
      called _ (event.Lock a l ∷ []) [] (taken w a l Exclusive rest) refl (taken_handed l Exclusive rest)

  acquire_shared_handed : (l : LockNumber) (rest : List Statement) → Handed w a (acquire_shared w a l rest)
  acquire_shared_handed l rest =
      called _ (event.Lock a l ∷ []) [] (taken w a l Shared rest) refl (taken_handed l Shared rest)

  release_lock_handed : (k : LockKind) (l : LockNumber) (rest : List Statement) → Handed w a (release_lock w a k l rest)
  release_lock_handed k l rest =
      called _ (event.Unlock a l ∷ []) [] (given_up w a l rest) refl
      (if_handed (holds_lock l here.locks) _ _ (goes_plain _ _ _ refl refl refl refl refl) (stays rest))

  -- ---- the queue and work items

  enqueued_handed : (granted refused : List Statement) (v : ℕ) (x : Option ℕ) → Handed w a (enqueued w a granted refused v x)
  enqueued_handed granted refused v x =
      let queue = queue_at w.store own_filter in
      let e : Entry = record { visit = v; context = x } in
      if_handed (is_attached (presence_at w.store own_filter)) _ _
      (hands _ _ _ refl (first_going a (loses_context a x) (loses_going a x))
      (λ u k.
      record {
        in_queues =
            sum_set (in_queue u) w.store.queues own_filter (queue ++ e ∷ []) []
            (queue_push u queue e (and_parts (not (v == u)) (list_all (is_apart u) (loses_context a x)) k).0);
        in_items = refl;
        settled = refl;
      }) refl) (stays refused)

  insert_by_handed : (granted refused : List Statement) (v : Option ℕ) (c : Option (Option ℕ)) →
      Handed w a (insert_by w a granted refused v c)
  insert_by_handed granted refused None c = stays refused
  insert_by_handed granted refused (Some v) (Some None) = stays refused
  insert_by_handed granted refused (Some v) (Some (Some x)) = enqueued_handed granted refused v (Some x)
  insert_by_handed granted refused (Some v) None = enqueued_handed granted refused v None

  insert_handed : (c : Option ContextVariable) (granted refused : List Statement) → Handed w a (insert w a c granted refused)
  insert_handed c granted refused =
      let v = operation_in here Data in
      called _ [] (operation v ∷ optional (named_in here c)) (insert_by w a granted refused v (named_in here c)) refl
      (insert_by_handed granted refused v (named_in here c))

  removed_handed : (o : RemovedVariable) (d : ContextVariable) (granted refused : List Statement) (queue : List Entry) →
      queue_at w.store own_filter ≡ queue → Handed w a (removed w a o d granted refused queue)
  removed_handed o d granted refused [] is = goes_plain _ _ _ refl refl refl refl refl
  removed_handed o d granted refused (e ∷ queue) is =
      hands _ _ _ refl (first_going a (gains_context a e.context) (gains_going a e.context))
      (λ u k.
      record {
        in_queues =
            sum_set (in_queue u) w.store.queues own_filter queue []
            (sym
            (ap (in_queue u) is
            ∙ queue_front u queue e (and_parts (not (e.visit == u)) (list_all (is_apart u) (gains_context a e.context)) k).0));
        in_items = refl;
        settled = refl;
      }) refl

  remove_handed : (o : RemovedVariable) (d : ContextVariable) (granted refused : List Statement) →
      Handed w a (remove_next w a o d granted refused)
  remove_handed o d granted refused =
      let queue = queue_at w.store own_filter in
      called _ [] [] (removed w a o d granted refused queue) refl (removed_handed o d granted refused queue refl)

  deferred_handed : (routine : ℕ) (grant : Bool) (granted refused : List Statement) (v : ℕ) (x : Option ℕ) →
      Handed w a (if grant then deferred w a routine granted v x else unchanged w a refused)
  deferred_handed routine grant granted refused v x =
      let i : Item = record { filter = own_filter; routine = routine; visit = Some v; context = x } in
      if_handed grant _ _
      (hands _ _ _ refl (first_going a (loses_context a x) (loses_going a x))
      (λ u k.
      record {
        in_queues = refl;
        in_items =
            sum_push (in_item u) w.store.items (Some i)
            (one_if_apart v u (and_parts (not (v == u)) (list_all (is_apart u) (loses_context a x)) k).0);
        settled = refl;
      }) refl) (stays refused)

  defer_by_handed : (routine : ℕ) (grant : Bool) (granted refused : List Statement) (v : Option ℕ) (c : Option (Option ℕ)) →
      Handed w a (defer_by w a routine grant granted refused v c)
  defer_by_handed routine grant granted refused None c = stays refused
  defer_by_handed routine grant granted refused (Some v) (Some None) = stays refused
  defer_by_handed routine grant granted refused (Some v) (Some (Some x)) = deferred_handed routine grant granted refused v (Some x)
  defer_by_handed routine grant granted refused (Some v) None = deferred_handed routine grant granted refused v None

  defer_handed : (routine : ℕ) (c : Option ContextVariable) (grant : Bool) (granted refused : List Statement) →
      Handed w a (queue_deferred w a routine c grant granted refused)
  defer_handed routine c grant granted refused =
      let v = operation_in here Data in
      called _ [] (operation v ∷ optional (named_in here c)) (defer_by w a routine grant granted refused v (named_in here c)) refl
      (defer_by_handed routine grant granted refused v (named_in here c))

  queued_handed : (routine : ℕ) (grant : Bool) (granted refused : List Statement) (x : Option ℕ) →
      Handed w a (if grant then queued w a routine granted x else unchanged w a refused)
  queued_handed routine grant granted refused x =
      let i : Item = record { filter = own_filter; routine = routine; visit = None; context = x } in
      if_handed grant _ _
      (hands _ _ _ refl (loses_going a x)
      (λ u k. record { in_queues = refl; in_items = sum_push (in_item u) w.store.items (Some i) refl; settled = refl }) refl)
      (stays refused)

  queue_by_handed : (routine : ℕ) (grant : Bool) (granted refused : List Statement) (c : Option (Option ℕ)) →
      Handed w a (queue_by w a routine grant granted refused c)
  queue_by_handed routine grant granted refused (Some None) = stays refused
  queue_by_handed routine grant granted refused (Some (Some x)) = queued_handed routine grant granted refused (Some x)
  queue_by_handed routine grant granted refused None = queued_handed routine grant granted refused None

  queue_handed : (routine : ℕ) (c : Option ContextVariable) (grant : Bool) (granted refused : List Statement) →
      Handed w a (queue_generic w a routine c grant granted refused)
  queue_handed routine c grant granted refused =
      called _ [] (optional (named_in here c)) (queue_by w a routine grant granted refused (named_in here c)) refl
      (queue_by_handed routine grant granted refused (named_in here c))

  -- ---- completion

  module _ (p : List Filter) where
    completed_handed : (rest : List Statement) (v : ℕ) (x : Option ℕ) (answer : Answer) → Handed w a (completed w a p rest v x answer)
    completed_handed rest v x answer =
        let way = way_of p w.store v answer in
        let taken_over = if makes_frame w.store v way then loses_context a x else [] in
        hands _ _ _ refl
        (first_going a (taken_over ++ event.Settle v ∷ [])
        (append_going a taken_over (event.Settle v ∷ [])
        (if_same (list_all (is_going a)) (makes_frame w.store v way) (loses_context a x) [] true (loses_going a x) refl) refl))
        (λ u k.
        settled_unmoved u w.store v x way (and_parts (not (v == u)) (list_all (is_apart u) (taken_over ++ event.Settle v ∷ [])) k).0)
        (settled_stays w.store v x way)

    status_going : (d : OperationVariable) (st : Status) (v : Option ℕ) → list_all (is_going a) (status_of w a p d st v) ≡ true
    status_going d st None = refl
    status_going d st (Some v) = refl

    complete_by_handed : (d : OperationVariable) (st : Status) (rest : List Statement) (v : Option ℕ) (c : Option (Option ℕ)) →
        Handed w a (complete_by w a p d st rest v c)
    complete_by_handed d st rest None c = stays rest
    complete_by_handed d st rest (Some v) (Some None) = stays rest
    complete_by_handed d st rest (Some v) (Some (Some x)) = completed_handed rest v (Some x) (CompletesPre (whose d) v st)
    complete_by_handed d st rest (Some v) None = completed_handed rest v None (CompletesPre (whose d) v st)

    complete_handed : (d : OperationVariable) (st : Status) (rest : List Statement) → Handed w a (complete_pre w a p d st rest)
    complete_handed d st rest =
        let v = operation_in here d in
        let c = named_in here (context_of st) in
        called _ (status_of w a p d st v) (operation v ∷ optional c) (complete_by w a p d st rest v c) (status_going d st v)
        (complete_by_handed d st rest v c)

    status_post_going : (v : Option ℕ) → list_all (is_going a) (status_of_post w a p v) ≡ true
    status_post_going None = refl
    status_post_going (Some v) = refl

    complete_post_by_handed : (rest : List Statement) (v : Option ℕ) → Handed w a (complete_post_by w a p rest v)
    complete_post_by_handed rest None = stays rest
    complete_post_by_handed rest (Some v) = completed_handed rest v None (CompletesPost v)

    complete_post_handed : (rest : List Statement) → Handed w a (complete_post w a p rest)
    complete_post_handed rest =
        let v = operation_in here Data in
        called _ (status_of_post w a p v) (operation v ∷ []) (complete_post_by w a p rest v) (status_post_going v)
        (complete_post_by_handed rest v)

    -- ---- the end

    module _ (t : List Event) where
      status_given_going : (st : Option Status) → list_all (is_going a) (status_given p t w a st) ≡ true
      status_given_going st =
          if_same (list_all (is_going a)) (answers (actor_at w a).place || is_some st) (event.Status a (Returned st) ∷ []) [] true
          refl refl

      context_used_going : (st : Option Status) → list_all (is_going a) (context_used p t w a st) ≡ true
      context_used_going st =
          let needs = optional (named_in here (named_context st)) in
          append_going a (uses a needs) (empties a needs) (uses_going a needs) (empties_going a needs)

      given_back_going : (v : ℕ) (x : Option ℕ) (way : Way) → list_all (is_going a) (visit_given_back p t w a v x way) ≡ true
      given_back_going v x way =
          let lost = if is_held t a (Visit v) then event.Lose a (Visit v) ∷ [] else [] in
          let handed = if makes_frame w.store v way then loses_context a x else [] in
          let settled = if settles_visit way then event.Settle v ∷ [] else [] in
          append_going a (lost ++ handed) settled
          (append_going a lost handed (if_same (list_all (is_going a)) (is_held t a (Visit v))
          (event.Lose a (Visit v) ∷ []) [] true (first_going a [] refl) refl)
          (if_same (list_all (is_going a)) (makes_frame w.store v way) (loses_context a x) [] true (loses_going a x) refl))
          (if_same (list_all (is_going a)) (settles_visit way) (event.Settle v ∷ []) [] true refl refl)

      ends_handed : (s : Store) (es : List Event) → list_all (is_going a) es ≡ true →
          ((v : ℕ) → list_all (is_apart v) es ≡ true → Unmoved v w.store s) → length s.settled ≡ length w.store.settled →
          Handed w a (ends p t w a s es)
      ends_handed s es going h k = record {
        act = record here { rest = []; ended = true };
        one_activation = refl;
        flag = sym (ap (λ b. b || here.ended) (ends_last a es));
        own =
            list_all-append (is_handed_by a) es (event.End a ∷ [])
            ∙ and_from (list_all (is_handed_by a) es) (list_all (is_handed_by a) (event.End a ∷ [])) (going_handed a es going)
            (and_from (a == a) true (self_by a) refl);
        unmoved =
            λ v k.
            h v
            (and_parts (list_all (is_apart v) es) (list_all (is_apart v) (event.End a ∷ []))
            (sym (list_all-append (is_apart v) es (event.End a ∷ [])) ∙ k)).0;
        settled_length = k;
      }

      ends_plain : (st : Option Status) → Handed w a (ends p t w a w.store (status_given p t w a st ++ context_used p t w a st))
      ends_plain st =
          ends_handed w.store (status_given p t w a st ++ context_used p t w a st)
          (append_going a (status_given p t w a st) (context_used p t w a st) (status_given_going st) (context_used_going st))
          (λ v k. unmoved_itself v w.store) refl

      returned_handed : (st : Option Status) (b : Bool) (v : Option ℕ) → Handed w a (returned p t w a st b v)
      returned_handed st true (Some v) =
          let x = there (named_in here (named_context st)) in
          let way = way_of p w.store v (Returned st) in
          let told = status_given p t w a st ++ context_used p t w a st in
          let lost = if is_held t a (Visit v) then event.Lose a (Visit v) ∷ [] else [] in
          let handed = if makes_frame w.store v way then loses_context a x else [] in
          let settled = if settles_visit way then event.Settle v ∷ [] else [] in
          ends_handed (settled_by w.store v x way) (told ++ visit_given_back p t w a v x way)
          (append_going a told (visit_given_back p t w a v x way)
          (append_going a (status_given p t w a st) (context_used p t w a st) (status_given_going st) (context_used_going st))
          (given_back_going v x way))
          (λ u k.
          settled_apart u w.store v x way (settles_visit way)
          (last_part (is_apart u) (lost ++ handed) settled (last_part (is_apart u) told (visit_given_back p t w a v x way) k)))
          (settled_stays w.store v x way)
      returned_handed st true None = ends_plain st
      returned_handed st false v = ends_plain st

      returns_handed : (st : Option Status) → Handed w a (returns p t w a st)
      returns_handed st = returned_handed st (answers (actor_at w a).place) (operation_in here Data)

      -- ---- any step

      plain_handed : (rest : List Statement) (c : PlainCall) → Handed w a (plain_step p t w a rest c)
      plain_handed rest (plain.DeleteContext c) = delete_handed c rest
      plain_handed rest (plain.ReferenceContext c d) = reference_handed c d rest
      plain_handed rest (plain.ReleaseContext c) = release_handed c rest
      plain_handed rest (plain.AcquireLock k l) = acquire_handed k l rest
      plain_handed rest (plain.AcquirePushLockShared l) = acquire_shared_handed l rest
      plain_handed rest (plain.ReleaseLock k l) = release_lock_handed k l rest
      plain_handed rest (plain.CompletePendedPreOperation d st) = complete_handed d st rest
      plain_handed rest plain.CompletePendedPostOperation = complete_post_handed rest

      fallible_handed : (grant : Bool) (granted refused : List Statement) (c : FallibleCall Routine) →
          Handed w a (fallible_step p t w a grant granted refused c)
      fallible_handed grant granted refused (fallible.AllocateContext d) = allocate_handed d grant granted refused
      fallible_handed grant granted refused (fallible.GetContext on d) = get_handed on d granted refused
      fallible_handed grant granted refused (fallible.SetContext on existing c old) = set_handed on existing c old granted refused
      fallible_handed grant granted refused (fallible.DeleteContextOf on old) = delete_at_handed on old granted refused
      fallible_handed grant granted refused (fallible.InsertIo c) = insert_handed c granted refused
      fallible_handed grant granted refused (fallible.RemoveNextIo o d) = remove_handed o d granted refused
      fallible_handed grant granted refused (fallible.QueueDeferredIoWorkItem r c) =
          defer_handed (routine_of (callbacks_at p own_filter) r) c grant granted refused
      fallible_handed grant granted refused (fallible.QueueGenericWorkItem r c) =
          queue_handed (routine_of (callbacks_at p own_filter) r) c grant granted refused

      each_handed : OfEach p t w a (λ s. Handed w a s)
      each_handed = record {
        of_value_read = λ n c rest. needed (context (context_in here c) ∷ []) (read_value_of w a n rest (context_in here c))
            (value_read n rest (context_in here c));
        of_value_written = λ c x rest. needed (context (context_in here c) ∷ []) (write_value_of w a x rest (context_in here c))
            (value_written x rest (context_in here c));
        of_file_read = λ n d rest. needed (operation (operation_in here d) ∷ []) (read_file_of w a n rest (operation_in here d))
            (file_read n rest (operation_in here d));
        of_irp_test = λ holds fails. needed (operation (operation_in here Data) ∷ [])
            (test_irp_of w a holds fails (operation_in here Data)) (irp_tested holds fails (operation_in here Data));
        of_plain_call = plain_handed;
        of_fallible_call = fallible_handed;
        of_return = returns_handed;
      }

-- ---- a step that others see

module _ (p : List Filter) (t : List Event) (w : World) (a : ℕ) (grant : Bool) (s : Step) where
  handed_by : (b : Bool) → (if b then None else list_step p t w a (activation_at w a).rest grant) ≡ Some s → Handed w a s
  handed_by true e = absurd (cc)
  handed_by false e = of_list p t w a (λ r. Handed w a r) (each_handed w a p t) (activation_at w a).rest grant s e

  -- what a step that others see does with visits is what its events name
  pub handed : board p t w a grant ≡ Some s → Handed w a s
  handed e = handed_by (activation_at w a).ended e
