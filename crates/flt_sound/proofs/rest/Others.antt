-- A step of an activation leaves no more of another filter than was there: it writes its own filter's queue, makes its own filter's links
-- and work items, and a frame that it makes is its own filter's, since the visit is. Here w is the world, a the activation, f the other
-- filter, s a store.
use Rattle.std.proofs.Common.{◌≡◌, ◌≢◌, ℕ, ◌<◌, ◌≤◌, Bool, true, false, List, [], ◌∷◌, ◌++◌}
use Rattle.std.proofs.Common.{length, Option, Some, None, ap, sym, refl, ◌∙◌, arith}
use Rattle.std.specs.Prelude.{if◌then◌else◌, is_some}
use Rattle.std.proofs.Math.ListN.{set}
use Rattle.std.proofs.lemmas.List.{get_or-set_other}
use Rattle.std.proofs.lemmas.List.Sums.{sum_by_push}
use Rattle.flt_rules.specs.Held.{holds_lock}
use Rattle.flt_rules.specs.Place.{answers}
use Rattle.flt_rules.specs.declared.call.Anchor.{Anchor}
use Rattle.flt_rules.specs.declared.call.Anchor.TheVariants as anchor
use Rattle.flt_rules.specs.declared.call.Existing.{Existing}
use Rattle.flt_rules.specs.declared.call.Existing.TheVariants.{Keep, Replace}
use Rattle.flt_rules.specs.declared.call.LockNumber.{LockNumber}
use Rattle.flt_rules.specs.declared.held.Access.{Access}
use Rattle.flt_tree.specs.Variable.{whose}
use Rattle.flt_tree.specs.declared.filter.FallibleCall.{FallibleCall}
use Rattle.flt_tree.specs.declared.filter.FallibleCall.TheVariants as fallible
use Rattle.flt_tree.specs.declared.filter.Filter.{Filter}
use Rattle.flt_tree.specs.declared.filter.Routine.{Routine}
use Rattle.flt_tree.specs.declared.filter.Statement.{Statement}
use Rattle.flt_tree.specs.declared.filter.Status.{Status}
use Rattle.flt_tree.specs.declared.variable.Atom.{Atom}
use Rattle.flt_tree.specs.declared.variable.ContextVariable.{ContextVariable}
use Rattle.flt_tree.specs.declared.variable.NumberVariable.{NumberVariable}
use Rattle.flt_tree.specs.declared.variable.OperationVariable.{OperationVariable}
use Rattle.flt_tree.specs.declared.variable.OperationVariable.TheVariants.{Data}
use Rattle.flt_tree.specs.declared.variable.RemovedVariable.{RemovedVariable}
use Rattle.flt_model.specs.declared.event.Answer.TheVariants.{Returned, CompletesPre, CompletesPost}
use Rattle.flt_model.specs.declared.event.Event.{Event}
use Rattle.flt_model.specs.Calls.{link_of, put_link, allocate, got, get_by, kept, set_there, cannot_set, set_by}
use Rattle.flt_model.specs.Calls.{unlinked, delete_by, deleted, referenced, released, taken, given_up, enqueued}
use Rattle.flt_model.specs.Calls.{insert_by, removed, defer_by, queue_by, complete_by, complete_post_by}
use Rattle.flt_model.specs.Effects.{Step, after_unlink}
use Rattle.flt_model.specs.Program.{callbacks_at, routine_of}
use Rattle.flt_model.specs.Reads.{put_value, read_value_of, write_value_of, read_file_of, test_irp_of}
use Rattle.flt_model.specs.Returns.{returned, returns}
use Rattle.flt_model.specs.declared.settling.Way.{Way}
use Rattle.flt_model.specs.declared.settling.Way.TheVariants.{Passes, Frames, Ends, Rises, Stays}
use Rattle.flt_model.specs.Settling.{way_of, settles_visit, led, is_led, lead, settled_by}
use Rattle.flt_model.specs.Steps.{fallible_step}
use Rattle.flt_model.specs.Variables.{context_in, operation_in, named_in, with_old}
use Rattle.flt_model.specs.World as world
use Rattle.flt_model.specs.declared.parts.Entry.{Entry}
use Rattle.flt_model.specs.declared.parts.Item.{Item}
use Rattle.flt_model.specs.declared.parts.Link.{Link}
use Rattle.flt_model.specs.World.{World, Store, Activation, Route, no_context, no_route, nobody, activation_at}
use Rattle.flt_model.specs.World.{actor_at, context_at, is_attached, is_freed, linked_at, presence_at, queue_at, route_at, visit_at}
use Rattle.flt_model.specs.World.{add_reference, drop_reference, with_context, with_link, with_queue, with_route}
use Rattle.flt_sound.proofs.sums.Counts.{one_if-other}
use Rattle.flt_sound.proofs.rest.Holding.{AreHeld, held_on, locks_stay, taken_held, given_up_held}
use Rattle.flt_sound.proofs.rest.Visiting.{AreVisited, same_visited, settled_visited}
use Rattle.flt_sound.proofs.rest.Parts.{frame_is, frames_in, item_is, link_is, linked_is, set_fewer, Apart, same_apart, both_apart}

-- ---- changes of the store

module _ (f : ℕ) (s : Store) where
  -- a context changes, and its link is no more the filter's than it was
  context_apart : (x : ℕ) (c : world.Context) → linked_is f c ≤ linked_is f (context_at s x) → Apart f s (with_context s x c)
  context_apart x c h = record {
    presences = refl;
    frames = omega arith;
    queue = refl;
    items = omega arith;
    links = set_fewer (linked_is f) s.contexts x c no_context h;
  }

  -- a reference more to a context
  pub more_apart : (x : ℕ) → Apart f s (add_reference s x)
  more_apart x = context_apart x _ (omega arith)

  -- a reference less
  pub less_apart : (x : ℕ) → Apart f s (drop_reference s x)
  less_apart x = context_apart x _ (omega arith)

  none_apart : (x : ℕ) → Apart f s (with_link s x None)
  none_apart x = context_apart x _ (omega arith)

  link_apart : (x : ℕ) (l : Link) → l.filter ≢ f → Apart f s (with_link s x (Some l))
  link_apart x l ne = let zero = one_if-other l.filter f ne in context_apart x _ (omega (arith, zero))

  -- a context's value is written
  pub value_apart : (x value : ℕ) → Apart f s (put_value s x value)
  value_apart x value = by (is_freed (context_at s x))
    where
      by : (b : Bool) → Apart f s (if b then s else with_context s x (record (context_at s x) { value = value }))
      by true = same_apart f s s refl refl refl refl refl
      by false = context_apart x _ (omega arith)

  -- one more context, without a link
  pub made_apart : (c : world.Context) → c.link ≡ None → Apart f s (record s { contexts = s.contexts ++ c ∷ [] })
  made_apart c e =
      let zero : linked_is f c ≡ 0 = ap (link_is f) e in
      record {
        presences = refl;
        frames = omega arith;
        queue = refl;
        items = omega arith;
        links = omega (arith, sum_by_push (linked_is f) s.contexts c, zero);
      }

  -- another filter's queue changes
  pub queue_apart : (g : ℕ) (queue : List Entry) → g ≢ f → Apart f s (with_queue s g queue)
  queue_apart g queue ne = record {
    presences = refl;
    frames = omega arith;
    queue = get_or-set_other s.queues g f queue [] (λ e. ne (sym e));
    items = omega arith;
    links = omega arith;
  }

  -- one more work item, another filter's
  pub item_apart : (i : Item) → i.filter ≢ f → Apart f s (record s { items = s.items ++ Some i ∷ [] })
  item_apart i ne =
      let zero = one_if-other i.filter f ne in
      record {
        presences = refl;
        frames = omega arith;
        queue = refl;
        items = omega (arith, sum_by_push (item_is f) s.items (Some i), zero);
        links = omega arith;
      }

  -- an operation's route has no more frames of the filter
  pub route_apart : (o : ℕ) (r : Route) → frames_in f r ≤ frames_in f (route_at s o) → Apart f s (with_route s o r)
  route_apart o r h = record {
    presences = refl;
    frames = set_fewer (frames_in f) s.routes o r no_route h;
    queue = refl;
    items = omega arith;
    links = omega arith;
  }

-- a link goes
pub unlink_apart : (f : ℕ) (s : Store) (y : ℕ) (old : Option ContextVariable) → Apart f s (after_unlink s y old)
unlink_apart f s y None = both_apart f s (with_link s y None) (drop_reference (with_link s y None) y) (none_apart f s y)
    (less_apart f (with_link s y None) y)
unlink_apart f s y (Some d) = none_apart f s y

-- a link of another filter is made
pub put_apart : (f : ℕ) (s : Store) (x : ℕ) (l : Link) → l.filter ≢ f → Apart f s (put_link s x l)
put_apart f s x l ne = both_apart f s (add_reference s x) (put_link s x l) (more_apart f s x) (link_apart f (add_reference s x) x l ne)

-- a filter leads an operation on: the route has no more frames of another
led_fewer : (f g : ℕ) (x : Option ℕ) (way : Way) (r : Route) → g ≢ f → frames_in f (led g x way r) ≤ frames_in f r
led_fewer f g x Passes r ne = omega arith
led_fewer f g x Frames r ne =
    let frame : world.Frame = record { filter = g; context = x } in
    omega (arith, sum_by_push (frame_is f) r.frames frame, one_if-other g f ne)
led_fewer f g x (Ends outcome) r ne = omega arith
led_fewer f g x Rises r ne = omega arith
led_fewer f g x Stays r ne = omega arith

-- a visit of another filter is settled
pub settled_apart : (f : ℕ) (s : Store) (v : ℕ) (x : Option ℕ) (way : Way) → (visit_at s v).filter ≢ f → Apart f s (settled_by s v x way)
settled_apart f s v x way ne = mark (settles_visit way)
  where
    led_apart : (b : Bool) →
        Apart f s (if b then with_route s (visit_at s v).operation (led (visit_at s v).filter x way
        (route_at s (visit_at s v).operation)) else s)
    led_apart true =
        route_apart f s (visit_at s v).operation _ (led_fewer f (visit_at s v).filter x way (route_at s (visit_at s v).operation) ne)
    led_apart false = same_apart f s s refl refl refl refl refl

    mark : (b : Bool) → Apart f s (if b then record (lead s v x way) { settled = set (lead s v x way).settled v true } else s)
    mark true = both_apart f s (lead s v x way) _ (led_apart (is_led s v)) (same_apart f (lead s v x way) _ refl refl refl refl refl)
    mark false = same_apart f s s refl refl refl refl refl

-- ---- what leaves all holders of locks

-- a link that goes leaves the holders of locks
pub unlink_holders : (s : Store) (y : ℕ) (old : Option ContextVariable) → (after_unlink s y old).holders ≡ s.holders
unlink_holders s y None = refl
unlink_holders s y (Some d) = refl

value_holders : (s : Store) (x value : ℕ) → (put_value s x value).holders ≡ s.holders
value_holders s x value = by (is_freed (context_at s x))
  where
    by : (b : Bool) → (if b then s else with_context s x (record (context_at s x) { value = value })).holders ≡ s.holders
    by true = refl
    by false = refl

settled_holders : (s : Store) (v : ℕ) (x : Option ℕ) (way : Way) → (settled_by s v x way).holders ≡ s.holders
settled_holders s v x way = mark (settles_visit way)
  where
    led_same : (b : Bool) →
        (if b then with_route s (visit_at s v).operation (led (visit_at s v).filter x way (route_at s (visit_at s v).operation)) else
        s).holders
        ≡ s.holders
    led_same true = refl
    led_same false = refl

    mark : (b : Bool) → (if b then record (lead s v x way) { settled = set (lead s v x way).settled v true } else s).holders ≡ s.holders
    mark true = led_same (is_led s v)
    mark false = refl

-- and the visits of operations
pub unlink_visited : (s : Store) (y : ℕ) (old : Option ContextVariable) → AreVisited s → AreVisited (after_unlink s y old)
unlink_visited s y None = same_visited s (after_unlink s y None) refl refl refl
unlink_visited s y (Some d) = same_visited s (with_link s y None) refl refl refl

value_visited : (s : Store) (x value : ℕ) → AreVisited s → AreVisited (put_value s x value)
value_visited s x value = by (is_freed (context_at s x))
  where
    by : (b : Bool) → AreVisited s → AreVisited (if b then s else with_context s x (record (context_at s x) { value = value }))
    by true k = k
    by false k = same_visited s (with_context s x (record (context_at s x) { value = value })) refl refl refl k

old_locks : (act : Activation) (old : Option ContextVariable) (x : Option ℕ) → (with_old act old x).locks ≡ act.locks
old_locks act None x = refl
old_locks act (Some d) x = refl

-- ---- steps of an activation of another filter

module _ (w : World) (a f : ℕ) (ne : (actor_at w a).filter ≢ f) (on : a < length w.activations) where
  -- this activation alone changes, no more of the filter is there, and who holds a lock has it in its list
  pub record LeavesIn (u : World) : Type 0 where
    pub actors : u.actors ≡ w.actors
    pub others : (b : ℕ) → b ≢ a → activation_at u b ≡ activation_at w b
    pub apart : Apart f w.store u.store
    pub held : AreHeld w → AreHeld u
    pub visited : AreVisited w.store → AreVisited u.store

  -- the same of a step
  abbrev pub LeavesIt : Step → Type 0
  LeavesIt s = LeavesIn s.world

  -- where the activation keeps its locks and the store its holders
  pub goes : (act : Activation) (store : Store) → Apart f w.store store → store.holders ≡ w.store.holders →
      act.locks ≡ (activation_at w a).locks → (AreVisited w.store → AreVisited store) →
      LeavesIn (record w { activations = set w.activations a act; store = store })
  goes act store h holders locks visited = record {
    visited = visited;
    actors = refl;
    others = λ b ne. get_or-set_other w.activations a b act nobody ne;
    apart = h;
    held = held_on w (record w { activations = set w.activations a act; store = store }) holders (λ b there. refl)
        (λ b there. locks_stay w.activations a act locks b);
  }

  -- where the store stays as it is
  pub still : (act : Activation) → act.locks ≡ (activation_at w a).locks → LeavesIn (record w { activations = set w.activations a act })
  still act locks = goes act w.store (same_apart f w.store w.store refl refl refl refl refl) refl locks (λ k. k)

  -- where routes and visits stay
  visits_stay : (new : Store) → new.routes ≡ w.store.routes → new.visits ≡ w.store.visits → new.settled ≡ w.store.settled →
      AreVisited w.store → AreVisited new
  visits_stay new r v t = same_visited w.store new r v t

  abbrev here : Activation
  here = activation_at w a

  abbrev own : ℕ
  own = (actor_at w a).filter

  if_apart : (b : Bool) (r s : Step) → LeavesIt r → LeavesIt s → LeavesIt (if b then r else s)
  if_apart true r s h k = h
  if_apart false r s h k = k

  -- ---- contexts

  allocate_apart : (d : ContextVariable) (grant : Bool) (granted refused : List Statement) → LeavesIt (allocate w a d grant granted refused)
  allocate_apart d true granted refused = goes _ _ (made_apart f w.store _ refl) refl refl (visits_stay _ refl refl refl)
  allocate_apart d false granted refused = still _ refl

  got_apart : (d : ContextVariable) (granted refused : List Statement) (x : Option ℕ) → LeavesIt (got w a d granted refused x)
  got_apart d granted refused None = still _ refl
  got_apart d granted refused (Some x) = goes _ _ (more_apart f w.store x) refl refl (visits_stay _ refl refl refl)

  get_by_apart : (d : ContextVariable) (granted refused : List Statement) (l : Option Link) → LeavesIt (get_by w a d granted refused l)
  get_by_apart d granted refused None = still _ refl
  get_by_apart d granted refused (Some l) = got_apart d granted refused (linked_at w.store l)

  kept_apart : (old : Option ContextVariable) (refused : List Statement) (y : ℕ) → LeavesIt (kept w a old refused y)
  kept_apart None refused y = still _ refl
  kept_apart (Some d) refused y = got_apart d refused refused (Some y)

  there_apart : (existing : Existing) (old : Option ContextVariable) (granted refused : List Statement) (x : ℕ) (l : Link) (y : Option ℕ) →
      l.filter ≢ f → LeavesIt (set_there w a existing old granted refused x l y)
  there_apart existing old granted refused x l None h =
      goes _ _ (put_apart f w.store x l h) refl (old_locks _ old None) (visits_stay _ refl refl refl)
  there_apart Keep old granted refused x l (Some y) h = kept_apart old refused y
  there_apart Replace old granted refused x l (Some y) h =
      goes _ _ (both_apart f w.store (after_unlink w.store y old) _ (unlink_apart f w.store y old)
      (put_apart f (after_unlink w.store y old) x l h)) (unlink_holders w.store y old) (old_locks _ old (Some y))
      (λ k. same_visited (after_unlink w.store y old) (put_link (after_unlink w.store y old) x l) refl refl refl
      (unlink_visited w.store y old k))

  set_apart : (existing : Existing) (old : Option ContextVariable) (granted refused : List Statement) (x : Option ℕ) (l : Option Link) →
      ((j : Link) → l ≡ Some j → j.filter ≢ f) → LeavesIt (set_by w a existing old granted refused x l)
  set_apart existing old granted refused None l h = still _ refl
  set_apart existing old granted refused (Some x) None h = still _ refl
  set_apart existing old granted refused (Some x) (Some l) h =
      if_apart (cannot_set w a x) _ _ (still _ (old_locks _ old None)) (there_apart existing old granted refused x l
      (linked_at w.store l) (h l refl))

  unlinked_apart : (old : Option ContextVariable) (granted refused : List Statement) (y : Option ℕ) →
      LeavesIt (unlinked w a old granted refused y)
  unlinked_apart old granted refused None = still _ (old_locks _ old None)
  unlinked_apart old granted refused (Some y) = goes _ _ (unlink_apart f w.store y old) (unlink_holders w.store y old)
      (old_locks _ old (Some y)) (unlink_visited w.store y old)

  delete_by_apart : (old : Option ContextVariable) (granted refused : List Statement) (l : Option Link) →
      LeavesIt (delete_by w a old granted refused l)
  delete_by_apart old granted refused None = still _ refl
  delete_by_apart old granted refused (Some l) = unlinked_apart old granted refused (linked_at w.store l)

  -- a context is deleted
  pub deleted_apart : (rest : List Statement) (x : Option ℕ) → LeavesIt (deleted w a rest x)
  deleted_apart rest None = still _ refl
  deleted_apart rest (Some x) = if_apart (is_some (context_at w.store x).link) _ _
      (goes _ _ (unlink_apart f w.store x None) (unlink_holders w.store x None) refl (unlink_visited w.store x None)) (still _ refl)

  -- a context gets one more name
  pub referenced_apart : (d : ContextVariable) (rest : List Statement) (x : Option ℕ) → LeavesIt (referenced w a d rest x)
  referenced_apart d rest None = still _ refl
  referenced_apart d rest (Some x) = got_apart d rest rest (Some x)

  -- a context is released
  pub released_apart : (rest : List Statement) (x : Option ℕ) → LeavesIt (released w a rest x)
  released_apart rest None = still _ refl
  released_apart rest (Some x) = goes _ _ (less_apart f w.store x) refl refl (visits_stay _ refl refl refl)

  -- ---- locks

  -- a lock is taken
  pub taken_apart : (l : LockNumber) (access : Access) (rest : List Statement) → LeavesIt (taken w a l access rest)
  taken_apart l access rest = if_apart (holds_lock l here.locks) _ _ (still _ refl) (record {
    actors = refl;
    others = λ b ne. get_or-set_other w.activations a b _ nobody ne;
    apart = same_apart f w.store _ refl refl refl refl refl;
    held = taken_held w a on l access _ refl;
    visited = visits_stay _ refl refl refl;
  })

  -- a lock is given up
  pub given_up_apart : (l : LockNumber) (rest : List Statement) → LeavesIt (given_up w a l rest)
  given_up_apart l rest = if_apart (holds_lock l here.locks) _ _ (record {
    actors = refl;
    others = λ b ne. get_or-set_other w.activations a b _ nobody ne;
    apart = same_apart f w.store _ refl refl refl refl refl;
    held = given_up_held w a on l _ refl;
    visited = visits_stay _ refl refl refl;
  }) (still _ refl)

  -- ---- the queue and work items

  enqueued_apart : (granted refused : List Statement) (v : ℕ) (x : Option ℕ) → LeavesIt (enqueued w a granted refused v x)
  enqueued_apart granted refused v x =
      if_apart (is_attached (presence_at w.store own)) _ _ (goes _ _ (queue_apart f w.store own _ ne) refl refl
      (visits_stay _ refl refl refl)) (still _ refl)

  insert_apart : (granted refused : List Statement) (v : Option ℕ) (c : Option (Option ℕ)) → LeavesIt (insert_by w a granted refused v c)
  insert_apart granted refused None c = still _ refl
  insert_apart granted refused (Some v) (Some None) = still _ refl
  insert_apart granted refused (Some v) (Some (Some x)) = enqueued_apart granted refused v (Some x)
  insert_apart granted refused (Some v) None = enqueued_apart granted refused v None

  removed_apart : (o : RemovedVariable) (d : ContextVariable) (granted refused : List Statement) (queue : List Entry) →
      LeavesIt (removed w a o d granted refused queue)
  removed_apart o d granted refused [] = still _ refl
  removed_apart o d granted refused (e ∷ queue) = goes _ _ (queue_apart f w.store own queue ne) refl refl (visits_stay _ refl refl refl)

  defer_apart : (routine : ℕ) (grant : Bool) (granted refused : List Statement) (v : Option ℕ) (c : Option (Option ℕ)) →
      LeavesIt (defer_by w a routine grant granted refused v c)
  defer_apart routine grant granted refused None c = still _ refl
  defer_apart routine grant granted refused (Some v) (Some None) = still _ refl
  defer_apart routine grant granted refused (Some v) (Some (Some x)) =
      if_apart grant _ _ (goes _ _ (item_apart f w.store _ ne) refl refl (visits_stay _ refl refl refl)) (still _ refl)
  defer_apart routine grant granted refused (Some v) None =
      if_apart grant _ _ (goes _ _ (item_apart f w.store _ ne) refl refl (visits_stay _ refl refl refl)) (still _ refl)

  generic_apart : (routine : ℕ) (grant : Bool) (granted refused : List Statement) (c : Option (Option ℕ)) →
      LeavesIt (queue_by w a routine grant granted refused c)
  generic_apart routine grant granted refused (Some None) = still _ refl
  generic_apart routine grant granted refused (Some (Some x)) =
      if_apart grant _ _ (goes _ _ (item_apart f w.store _ ne) refl refl (visits_stay _ refl refl refl)) (still _ refl)
  generic_apart routine grant granted refused None =
      if_apart grant _ _ (goes _ _ (item_apart f w.store _ ne) refl refl (visits_stay _ refl refl refl)) (still _ refl)

  -- ---- reads

  -- a context's value is read
  pub value_read : (n : NumberVariable) (rest : List Statement) (x : Option ℕ) → LeavesIt (read_value_of w a n rest x)
  value_read n rest None = still _ refl
  value_read n rest (Some x) = still _ refl

  -- a context's value is written by a callback
  pub value_written : (value : Atom) (rest : List Statement) (x : Option ℕ) → LeavesIt (write_value_of w a value rest x)
  value_written value rest None = still _ refl
  value_written value rest (Some x) = goes _ _ (value_apart f w.store x _) (value_holders w.store x _) refl (value_visited w.store x _)

  -- an operation's file is read
  pub file_read : (n : NumberVariable) (rest : List Statement) (v : Option ℕ) → LeavesIt (read_file_of w a n rest v)
  file_read n rest None = still _ refl
  file_read n rest (Some v) = still _ refl

  -- an operation's mode is tested
  pub irp_tested : (holds fails : List Statement) (v : Option ℕ) → LeavesIt (test_irp_of w a holds fails v)
  irp_tested holds fails None = still _ refl
  irp_tested holds fails (Some v) = still _ refl

  -- ---- calls that can fail

  -- a link that a call works on is its own filter's
  link_own : (on : Anchor) (v : Option ℕ) (j : Link) → link_of w.store own on v ≡ Some j → j.filter ≢ f
  link_own anchor.Stream None j e = absurd (cc)
  link_own anchor.Stream (Some v) j e = let made : own ≡ j.filter = cc in λ h. ne (made ∙ h)
  link_own anchor.Instance v j e = let made : own ≡ j.filter = cc in λ h. ne (made ∙ h)

  -- ---- completion and the end: the visit must be the filter's own

  module _ (p : List Filter) where
    -- a pre completion of another filter's visit, or of none, leaves the filter as it is
    pub complete_apart : (d : OperationVariable) (st : Status) (rest : List Statement) (v : Option ℕ) (c : Option (Option ℕ)) →
        ((u : ℕ) → v ≡ Some u → (visit_at w.store u).filter ≢ f) → LeavesIt (complete_by w a p d st rest v c)
    complete_apart d st rest None c h = still _ refl
    complete_apart d st rest (Some v) (Some None) h = still _ refl
    complete_apart d st rest (Some v) (Some (Some x)) h =
        goes _ _ (settled_apart f w.store v (Some x) (way_of p w.store v (CompletesPre (whose d) v st)) (h v refl))
        (settled_holders w.store v _ _) refl (settled_visited w.store v _ _)
    complete_apart d st rest (Some v) None h = goes _ _ (settled_apart f w.store v None
        (way_of p w.store v (CompletesPre (whose d) v st)) (h v refl)) (settled_holders w.store v _ _) refl (settled_visited w.store v _ _)

    -- a post completion of another filter's visit, or of none, leaves the filter as it is
    pub complete_post_apart : (rest : List Statement) (v : Option ℕ) → ((u : ℕ) → v ≡ Some u → (visit_at w.store u).filter ≢ f) →
        LeavesIt (complete_post_by w a p rest v)
    complete_post_apart rest None h = still _ refl
    complete_post_apart rest (Some v) h = goes _ _ (settled_apart f w.store v None (way_of p w.store v (CompletesPost v)) (h v refl))
        (settled_holders w.store v _ _) refl (settled_visited w.store v _ _)

    module _ (t : List Event) where
      returned_apart : (st : Option Status) (b : Bool) (v : Option ℕ) → ((u : ℕ) → v ≡ Some u → (visit_at w.store u).filter ≢ f) →
          LeavesIt (returned p t w a st b v)
      returned_apart st true (Some v) h = goes _ _ (settled_apart f w.store v _ (way_of p w.store v (Returned st)) (h v refl))
          (settled_holders w.store v _ _) refl (settled_visited w.store v _ _)
      returned_apart st true None h = still _ refl
      returned_apart st false v h = still _ refl

      -- a return leaves the filter as it is where `data` names no visit of it
      pub returns_apart : (st : Option Status) → ((u : ℕ) → operation_in here Data ≡ Some u → (visit_at w.store u).filter ≢ f) →
          LeavesIt (returns p t w a st)
      returns_apart st h = returned_apart st (answers (actor_at w a).place) (operation_in here Data) h

      -- each call that can fail leaves the filter as it is, granted or refused
      pub fallible_apart : (grant : Bool) (granted refused : List Statement) (c : FallibleCall Routine) →
          LeavesIt (fallible_step p t w a grant granted refused c)
      fallible_apart grant granted refused (fallible.AllocateContext d) = allocate_apart d grant granted refused
      fallible_apart grant granted refused (fallible.GetContext on d) =
          get_by_apart d granted refused (link_of w.store own on (operation_in here Data))
      fallible_apart grant granted refused (fallible.SetContext on existing c old) =
          set_apart existing old granted refused (context_in here c) (link_of w.store own on (operation_in here Data))
          (link_own on (operation_in here Data))
      fallible_apart grant granted refused (fallible.DeleteContextOf on old) =
          delete_by_apart old granted refused (link_of w.store own on (operation_in here Data))
      fallible_apart grant granted refused (fallible.InsertIo c) = insert_apart granted refused (operation_in here Data) (named_in here c)
      fallible_apart grant granted refused (fallible.RemoveNextIo o d) = removed_apart o d granted refused (queue_at w.store own)
      fallible_apart grant granted refused (fallible.QueueDeferredIoWorkItem r c) =
          defer_apart (routine_of (callbacks_at p own) r) grant granted refused (operation_in here Data) (named_in here c)
      fallible_apart grant granted refused (fallible.QueueGenericWorkItem r c) =
          generic_apart (routine_of (callbacks_at p own) r) grant granted refused (named_in here c)
