-- What there is of a filter that isn't attached doesn't grow by the steps of callbacks, where the system grants nothing that it may refuse:
-- no entry comes into its queue and no link is made, no work item is queued, and a frame is made only where a visit from before the filters
-- below is settled. So these visits, frames, entries, items and links are counted together (`size`).
-- Here f is the filter, s a store, w a world, a an activation, g its filter, v a visit.
use Rattle.std.proofs.Common.{◌≡◌, ◌≢◌, ℕ, zero, suc, ◌+◌, ◌≤◌, Bool, true, false, List, [], ◌∷◌, ◌++◌, length}
use Rattle.std.proofs.Common.{Option, Some, None, ap, sym, refl, ◌∙◌, arith, inl, inr, ◌⊎◌, sum_by}
use Rattle.std.specs.Prelude.{not, if◌then◌else◌, is_some}
use Rattle.std.proofs.Math.ListN.{set, get_or}
use Rattle.std.proofs.lemmas.Bool.{cases_eq, cases_lt, and_parts, or_parts}
use Rattle.std.proofs.lemmas.List.{get_or-set_same, get_or-set_other, set_past}
use Rattle.std.proofs.lemmas.List.Sums.{sum_by-cons, sum_by_push, sum_by-set}
use Rattle.flt_rules.specs.Held.{holds_lock}
use Rattle.flt_rules.specs.Place.{answers}
use Rattle.flt_rules.specs.declared.call.Anchor.{Anchor}
use Rattle.flt_rules.specs.declared.call.Anchor.TheVariants as anchor
use Rattle.flt_rules.specs.declared.call.Existing.{Existing}
use Rattle.flt_rules.specs.declared.call.Existing.TheVariants.{Keep, Replace}
use Rattle.flt_rules.specs.declared.call.LockNumber.{LockNumber}
use Rattle.flt_rules.specs.declared.held.Access.{Access}
use Rattle.flt_rules.specs.declared.held.Access.TheVariants.{Exclusive, Shared}
use Rattle.flt_rules.specs.declared.place.Stage.{Stage}
use Rattle.flt_rules.specs.declared.place.Stage.TheVariants as stage
use Rattle.flt_tree.specs.Filter.{context_of}
use Rattle.flt_tree.specs.Variable.{whose}
use Rattle.flt_tree.specs.declared.filter.Action.{Action}
use Rattle.flt_tree.specs.declared.filter.Action.TheVariants as action
use Rattle.flt_tree.specs.declared.filter.Condition.{Condition}
use Rattle.flt_tree.specs.declared.filter.Condition.TheVariants as condition
use Rattle.flt_tree.specs.declared.filter.FallibleCall.{FallibleCall}
use Rattle.flt_tree.specs.declared.filter.FallibleCall.TheVariants as fallible
use Rattle.flt_tree.specs.declared.filter.Filter.{Filter}
use Rattle.flt_tree.specs.declared.filter.PlainCall.{PlainCall}
use Rattle.flt_tree.specs.declared.filter.PlainCall.TheVariants as plain_call
use Rattle.flt_tree.specs.declared.filter.Routine.{Routine}
use Rattle.flt_tree.specs.declared.filter.Statement.{Statement, out-Statement}
use Rattle.flt_tree.specs.declared.filter.Statement.TheOpen.{Statement-F}
use Rattle.flt_tree.specs.declared.filter.Status.{Status}
use Rattle.flt_tree.specs.declared.filter.Status.TheVariants as status
use Rattle.flt_tree.specs.declared.filter.Test.{Test}
use Rattle.flt_tree.specs.declared.filter.Test.TheVariants as test
use Rattle.flt_tree.specs.declared.variable.Atom.{Atom}
use Rattle.flt_tree.specs.declared.variable.ContextVariable.{ContextVariable}
use Rattle.flt_tree.specs.declared.variable.NumberVariable.{NumberVariable}
use Rattle.flt_tree.specs.declared.variable.OperationVariable.{OperationVariable}
use Rattle.flt_tree.specs.declared.variable.OperationVariable.TheVariants.{Data}
use Rattle.flt_tree.specs.declared.variable.RemovedVariable.{RemovedVariable}
use Rattle.flt_model.specs.declared.event.Answer.{Answer}
use Rattle.flt_model.specs.declared.event.Answer.TheVariants.{Returned, CompletesPre, CompletesPost}
use Rattle.flt_model.specs.declared.event.Event.{Event}
use Rattle.flt_model.specs.Calls.{link_of, put_link, allocate, got, get_by, kept, set_there, cannot_set, set_by}
use Rattle.flt_model.specs.Calls.{unlinked, delete_by, deleted, referenced, released, taken, given_up, enqueued}
use Rattle.flt_model.specs.Calls.{insert_by, removed, defer_by, queue_by, complete_by, complete_post_by}
use Rattle.flt_model.specs.Effects.{Step, after_unlink}
use Rattle.flt_model.specs.Program.{callbacks_at, routine_of, has_post}
use Rattle.flt_model.specs.Reads.{put_value, read_value_of, write_value_of, read_file_of, test_irp_of}
use Rattle.flt_model.specs.Returns.{returned, returns}
use Rattle.flt_model.specs.declared.settling.Way.{Way}
use Rattle.flt_model.specs.declared.settling.Way.TheVariants.{Passes, Frames, Ends, Rises, Stays}
use Rattle.flt_model.specs.Settling.{way_by, way_of, given_by, is_returned}
use Rattle.flt_model.specs.Settling.{settles_visit, asks_for_frame, led, is_led, lead, settled_by}
use Rattle.flt_model.specs.Steps.{may_go, leaves_choice, may_be_refused, act_step, plain_step}
use Rattle.flt_model.specs.Steps.{fallible_step, test_step, if_step, statement_step, list_step}
use Rattle.flt_model.specs.Trace.{one_if}
use Rattle.flt_model.specs.Variables.{context_in, operation_in, named_in}
use Rattle.flt_model.specs.World as world
use Rattle.flt_model.specs.declared.parts.Entry.{Entry}
use Rattle.flt_model.specs.declared.parts.Item.{Item}
use Rattle.flt_model.specs.declared.parts.Link.{Link}
use Rattle.flt_model.specs.declared.parts.Presence.{Presence}
use Rattle.flt_model.specs.declared.parts.Presence.TheVariants.{Attached, Detaching, Detached}
use Rattle.flt_model.specs.World.{World, Store, Activation, Route, Visit}
use Rattle.flt_model.specs.World.{no_context, no_route, no_visit, nobody, activation_at, actor_at, arrival_of, context_at, is_attached}
use Rattle.flt_model.specs.World.{is_freed, is_settled, linked_at, presence_at, queue_at, route_at, visit_at, with_queue, with_route}
use Rattle.flt_sound.proofs.points.Local.{AfterStep}
use Rattle.flt_sound.proofs.rest.Parts.{frame_is, frames_in, frames_of, items_of, links_of, Apart, same_apart, both_apart}
use Rattle.flt_sound.proofs.rest.Others.{more_apart, less_apart, value_apart, made_apart, put_apart, unlink_apart, queue_apart}
use Rattle.flt_sound.proofs.rest.Passing.{when}
use Rattle.flt_sound.proofs.progress.Waiting.{modest, modest_list}

-- ---- tests

not_true : (b : Bool) → not b ≡ true → b ≡ false
not_true true h = absurd (cc)
not_true false h = refl

not_false_back : (b : Bool) → not b ≡ false → b ≡ true
not_false_back true h = refl
not_false_back false h = absurd (cc)

if_same : {X : Type 0} (f : Store → X) (b : Bool) (x y : Store) (u : X) → f x ≡ u → f y ≡ u → f (if b then x else y) ≡ u
if_same f true x y u h k = h
if_same f false x y u h k = k

-- ---- unsettled visits from before the filters below

-- 1 where a visit is the filter's, from before the filters below
abbrev pub before_by : ℕ → ℕ → Stage → ℕ
before_by f g stage.Pre = one_if g f
before_by f g stage.Post = 0

-- 1 where a visit is the filter's, from before the filters below, by its record
abbrev pub before_is : ℕ → Visit → ℕ
before_is f x = before_by f x.filter x.stage

-- how many of those aren't settled
abbrev pub open_in : ℕ → List Visit → List Bool → ℕ
open_in f [] settled = 0
open_in f (x ∷ visits) [] = 0
open_in f (x ∷ visits) (b ∷ settled) = (if b then 0 else before_is f x) + open_in f visits settled

-- how many visits of the filter from before the filters below aren't settled
abbrev pub open_of : ℕ → Store → ℕ
open_of f s = open_in f s.visits s.settled

-- settling one leaves as many less
settle_open : (f : ℕ) (visits : List Visit) (settled : List Bool) (v : ℕ) →
    open_in f visits (set settled v true) + (if get_or settled v true then 0 else before_is f (get_or visits v no_visit)) ≡
    open_in f visits settled
settle_open f [] settled v = by (get_or settled v true)
  where
    by : (b : Bool) → 0 + (if b then 0 else 0) ≡ 0
    by true = refl
    by false = refl
settle_open f (x ∷ visits) [] v = refl
settle_open f (x ∷ visits) (b ∷ settled) zero = omega arith
settle_open f (x ∷ visits) (b ∷ settled) (suc v) = omega (arith, settle_open f visits settled v)

-- one visit more
pub push_open : (f : ℕ) (visits : List Visit) (settled : List Bool) (x : Visit) → length settled ≡ length visits →
    open_in f (visits ++ x ∷ []) (settled ++ false ∷ []) ≡ open_in f visits settled + before_is f x
push_open f [] [] x e = omega arith
push_open f [] (b ∷ settled) x e = absurd (omega (arith, e))
push_open f (y ∷ visits) [] x e = absurd (omega (arith, e))
push_open f (y ∷ visits) (b ∷ settled) x e = omega (arith, push_open f visits settled x (omega (arith, e)))

-- ---- all that is counted

-- how many entries its queue has
abbrev pub entries_of : ℕ → Store → ℕ
entries_of f s = sum_by (λ (e : Entry). 1) (queue_at s f)

-- these visits, frames, entries, items and links of the filter, together
abbrev pub size : ℕ → Store → ℕ
size f s = open_of f s + frames_of f s + (entries_of f s + items_of f s + links_of f s)

-- the filter is there as it was, and no more is there of it
pub record Dwindles (f : ℕ) (s new : Store) : Type 0 where
  pub presences : new.presences ≡ s.presences
  pub less : size f new ≤ size f s

-- a store with no more frames, entries, items and links of the filter, and the same visits, settled as they were
apart_dwindles : (f : ℕ) (s new : Store) → Apart f s new → new.visits ≡ s.visits → new.settled ≡ s.settled → Dwindles f s new
apart_dwindles f s new h v t =
    let visits : open_of f new ≡ open_of f s = rw (v, t) refl in
    let entries : entries_of f new ≡ entries_of f s = ap (λ q. sum_by (λ (e : Entry). 1) q) h.queue in
    record { presences = h.presences; less = omega (arith, visits, h.frames, entries, h.items, h.links) }

-- what stays as it is doesn't grow
pub same_dwindles : (f : ℕ) (s : Store) → Dwindles f s s
same_dwindles f s = record { presences = refl; less = omega arith }

-- one change after the other
pub both_dwindle : (f : ℕ) (s mid new : Store) → Dwindles f s mid → Dwindles f mid new → Dwindles f s new
both_dwindle f s mid new h k = record { presences = k.presences ∙ h.presences; less = omega (arith, h.less, k.less) }

-- the first entry of a queue is taken
pop_dwindles : (f : ℕ) (s : Store) (g : ℕ) (e : Entry) (queue : List Entry) → queue_at s g ≡ e ∷ queue → Dwindles f s (with_queue s g queue)
pop_dwindles f s g e queue is = record { presences = refl; less = by (cases_eq f g) }
  where
    by : (f ≡ g) ⊎ (f ≢ g) → size f (with_queue s g queue) ≤ size f s
    by (inl same) = elim (cases_lt g (length s.queues)) [
      | inl there ↦
          let now : entries_of f (with_queue s g queue) ≡ sum_by (λ (e : Entry). 1) queue =
          ap (λ i. sum_by (λ (e : Entry). 1) (get_or (set s.queues g queue) i [])) same
          ∙ ap (λ q. sum_by (λ (e : Entry). 1) q) (get_or-set_same s.queues g queue [] there) in
          let was : entries_of f s ≡ sum_by (λ (e : Entry). 1) (e ∷ queue) =
          ap (λ i. sum_by (λ (e : Entry). 1) (queue_at s i)) same ∙ ap (λ q. sum_by (λ (e : Entry). 1) q) is in
          omega (arith, now, was, sum_by-cons (λ (e : Entry). 1) e queue)
      | inr past ↦
          let now : entries_of f (with_queue s g queue) ≡ entries_of f s =
          ap (λ l. sum_by (λ (e : Entry). 1) (get_or l f [])) (set_past s.queues g queue past) in
          omega (arith, now)
    ]
    by (inr ne) =
        let now : entries_of f (with_queue s g queue) ≡ entries_of f s =
        ap (λ q. sum_by (λ (e : Entry). 1) q) (get_or-set_other s.queues g f queue [] ne) in
        omega (arith, now)

-- ---- a visit is settled

-- a frame is made by a status before the filters below, and settles the visit
frames_before : (post returned : Bool) (at : Stage) (st : Option Status) → way_by post at returned st ≡ Frames → at ≡ stage.Pre
frames_before post returned stage.Pre st e = refl
frames_before post true stage.Post (Some status.MoreProcessingRequired) e = let bad : true ≡ false = ap settles_visit (sym e) in absurd (cc)
frames_before post false stage.Post (Some status.MoreProcessingRequired) e = let bad : false ≡ true = ap asks_for_frame e in absurd (cc)
frames_before post returned stage.Post (Some (status.WithCallback c)) e = let bad : false ≡ true = ap asks_for_frame e in absurd (cc)
frames_before post returned stage.Post (Some (status.Synchronize c)) e = let bad : false ≡ true = ap asks_for_frame e in absurd (cc)
frames_before post returned stage.Post (Some (status.Complete x)) e = let bad : false ≡ true = ap asks_for_frame e in absurd (cc)
frames_before post returned stage.Post (Some status.Pending) e = let bad : false ≡ true = ap asks_for_frame e in absurd (cc)
frames_before post returned stage.Post (Some status.DisallowFastIo) e = let bad : false ≡ true = ap asks_for_frame e in absurd (cc)
frames_before post returned stage.Post (Some status.NoCallback) e = let bad : false ≡ true = ap asks_for_frame e in absurd (cc)
frames_before post returned stage.Post (Some status.FinishedProcessing) e = let bad : false ≡ true = ap asks_for_frame e in absurd (cc)
frames_before post returned stage.Post None e = let bad : false ≡ true = ap asks_for_frame e in absurd (cc)

-- leading an operation on makes a frame only so, and one at most
led_frames : (f g : ℕ) (x : Option ℕ) (way : Way) (r : Route) (at : Stage) → (way ≡ Frames → at ≡ stage.Pre) →
    frames_in f (led g x way r) ≤ frames_in f r + before_by f g at
led_frames f g x Passes r at h = omega arith
led_frames f g x Frames r at h =
    let frame : world.Frame = record { filter = g; context = x } in
    let one : before_by f g at ≡ one_if g f = rw (h refl) refl in
    omega (arith, sum_by_push (frame_is f) r.frames frame, one)
led_frames f g x (Ends outcome) r at h = omega arith
led_frames f g x Rises r at h = omega arith
led_frames f g x Stays r at h = omega arith

-- where one more route's frames come with one visit less, there is no more in all
settled_dwindles : (f : ℕ) (s : Store) (v : ℕ) (x : Option ℕ) (way : Way) → (way ≡ Frames → (visit_at s v).stage ≡ stage.Pre) →
    Dwindles f s (settled_by s v x way)
settled_dwindles f s v x way h = mark (settles_visit way)
  where
    g : ℕ
    g = (visit_at s v).filter

    o : ℕ
    o = (visit_at s v).operation

    r : Route
    r = led g x way (route_at s o)

    -- the frames of all routes
    frames_less : frames_of f (with_route s o r) ≤ frames_of f s + before_by f g (visit_at s v).stage
    frames_less = elim (cases_lt o (length s.routes)) [
      | inl there ↦
          omega (
            arith,
            sum_by-set (frames_in f) s.routes o r no_route there,
            led_frames f g x way (route_at s o) (visit_at s v).stage h,
          )
      | inr past ↦ rw (set_past s.routes o r past) (omega arith)
    ]

    -- the visits that are left
    left : (b : Bool) → is_settled s v ≡ b →
        open_in f s.visits (set s.settled v true) + (if b then 0 else before_by f g (visit_at s v).stage) ≡ open_of f s
    left b e = rw (sym e) (settle_open f s.visits s.settled v)

    led_dwindles : (b : Bool) → is_led s v ≡ b →
        Dwindles f s (record (if b then with_route s o r else s) { settled = set (if b then with_route s o r else s).settled v true })
    led_dwindles true e =
        let on : is_settled s v ≡ false = not_true (is_settled s v) (and_parts _ _ e).0 in
        record { presences = refl; less = omega (arith, frames_less, left false on) }
    led_dwindles false e = record { presences = refl; less = omega (arith, settle_open f s.visits s.settled v) }

    mark : (b : Bool) → Dwindles f s (if b then record (lead s v x way) { settled = set (lead s v x way).settled v true } else s)
    mark true = led_dwindles (is_led s v) refl
    mark false = same_dwindles f s

-- ---- steps of an activation, where nothing is granted that may be refused

module _ (w : World) (a f : ℕ) (fit : (actor_at w a).filter ≡ f → is_attached (presence_at w.store (actor_at w a).filter) ≡ false) where
  abbrev own : ℕ
  own = (actor_at w a).filter

  abbrev here : Activation
  here = activation_at w a

  -- no more of the filter is there after the step
  abbrev pub Small : Step → Type 0
  Small s = Dwindles f w.store s.world.store

  same : Dwindles f w.store w.store
  same = same_dwindles f w.store

  -- a change after which nothing more is there
  by_apart : (new : Store) → Apart f w.store new → new.visits ≡ w.store.visits → new.settled ≡ w.store.settled → Dwindles f w.store new
  by_apart new h v t = apart_dwindles f w.store new h v t

  if_small : (b : Bool) (r s : Step) → Small r → Small s → Small (if b then r else s)
  if_small true r s h k = h
  if_small false r s h k = k

  cases_small : (b : Bool) (r s : Step) → (b ≡ true → Small r) → (b ≡ false → Small s) → Small (if b then r else s)
  cases_small true r s h k = h refl
  cases_small false r s h k = k refl

  -- an attached filter isn't this one
  other : is_attached (presence_at w.store own) ≡ true → own ≢ f
  other e same = let bad : true ≡ false = sym e ∙ fit same in absurd (cc)

  -- ---- contexts

  unlink_visits : (y : ℕ) (old : Option ContextVariable) → (after_unlink w.store y old).visits ≡ w.store.visits
  unlink_visits y None = refl
  unlink_visits y (Some d) = refl

  unlink_settled : (y : ℕ) (old : Option ContextVariable) → (after_unlink w.store y old).settled ≡ w.store.settled
  unlink_settled y None = refl
  unlink_settled y (Some d) = refl

  unlink_small : (y : ℕ) (old : Option ContextVariable) → Dwindles f w.store (after_unlink w.store y old)
  unlink_small y old = by_apart (after_unlink w.store y old) (unlink_apart f w.store y old) (unlink_visits y old) (unlink_settled y old)

  allocate_small : (d : ContextVariable) (grant : Bool) (granted refused : List Statement) → Small (allocate w a d grant granted refused)
  allocate_small d true granted refused = by_apart _ (made_apart f w.store _ refl) refl refl
  allocate_small d false granted refused = same

  got_small : (d : ContextVariable) (granted refused : List Statement) (x : Option ℕ) → Small (got w a d granted refused x)
  got_small d granted refused None = same
  got_small d granted refused (Some x) = by_apart _ (more_apart f w.store x) refl refl

  get_by_small : (d : ContextVariable) (granted refused : List Statement) (l : Option Link) → Small (get_by w a d granted refused l)
  get_by_small d granted refused None = same
  get_by_small d granted refused (Some l) = got_small d granted refused (linked_at w.store l)

  kept_small : (old : Option ContextVariable) (refused : List Statement) (y : ℕ) → Small (kept w a old refused y)
  kept_small None refused y = same
  kept_small (Some d) refused y = got_small d refused refused (Some y)

  there_small : (existing : Existing) (old : Option ContextVariable) (granted refused : List Statement) (x : ℕ) (l : Link) (y : Option ℕ) →
      l.filter ≢ f → Small (set_there w a existing old granted refused x l y)
  there_small existing old granted refused x l None h = by_apart _ (put_apart f w.store x l h) refl refl
  there_small Keep old granted refused x l (Some y) h = kept_small old refused y
  there_small Replace old granted refused x l (Some y) h =
      by_apart (put_link (after_unlink w.store y old) x l)
      (both_apart f w.store (after_unlink w.store y old) _ (unlink_apart f w.store y old) (put_apart f (after_unlink w.store y old) x l h))
      (unlink_visits y old) (unlink_settled y old)

  -- a link that a call works on is its own filter's
  link_own : (on : Anchor) (v : Option ℕ) (j : Link) → link_of w.store own on v ≡ Some j → own ≡ j.filter
  link_own anchor.Stream None j e = absurd (cc)
  link_own anchor.Stream (Some v) j e = cc
  link_own anchor.Instance v j e = cc

  set_small : (existing : Existing) (old : Option ContextVariable) (granted refused : List Statement) (x : Option ℕ) (l : Option Link) →
      ((j : Link) → l ≡ Some j → own ≡ j.filter) → Small (set_by w a existing old granted refused x l)
  set_small existing old granted refused None l h = same
  set_small existing old granted refused (Some x) None h = same
  set_small existing old granted refused (Some x) (Some l) h =
      cases_small (cannot_set w a x) _ _ (λ e. same) (λ e.
      let attached = not_false_back (is_attached (presence_at w.store own)) (or_parts _ _ e).0 in
      there_small existing old granted refused x l (linked_at w.store l) (λ same. other attached (h l refl ∙ same)))

  unlinked_small : (old : Option ContextVariable) (granted refused : List Statement) (y : Option ℕ) →
      Small (unlinked w a old granted refused y)
  unlinked_small old granted refused None = same
  unlinked_small old granted refused (Some y) = unlink_small y old

  delete_by_small : (old : Option ContextVariable) (granted refused : List Statement) (l : Option Link) →
      Small (delete_by w a old granted refused l)
  delete_by_small old granted refused None = same
  delete_by_small old granted refused (Some l) = unlinked_small old granted refused (linked_at w.store l)

  deleted_small : (rest : List Statement) (x : Option ℕ) → Small (deleted w a rest x)
  deleted_small rest None = same
  deleted_small rest (Some x) = if_small (is_some (context_at w.store x).link) _ _ (unlink_small x None) same

  referenced_small : (d : ContextVariable) (rest : List Statement) (x : Option ℕ) → Small (referenced w a d rest x)
  referenced_small d rest None = same
  referenced_small d rest (Some x) = got_small d rest rest (Some x)

  released_small : (rest : List Statement) (x : Option ℕ) → Small (released w a rest x)
  released_small rest None = same
  released_small rest (Some x) = by_apart _ (less_apart f w.store x) refl refl

  -- ---- locks

  holders_small : (new : Store) → new.presences ≡ w.store.presences → new.routes ≡ w.store.routes → new.queues ≡ w.store.queues →
      new.items ≡ w.store.items → new.contexts ≡ w.store.contexts → new.visits ≡ w.store.visits → new.settled ≡ w.store.settled →
      Dwindles f w.store new
  holders_small new p r q i c v t = by_apart new (same_apart f w.store new p r q i c) v t

  taken_small : (l : LockNumber) (access : Access) (rest : List Statement) → Small (taken w a l access rest)
  taken_small l access rest = if_small (holds_lock l here.locks) _ _ same (holders_small _ refl refl refl refl refl refl refl)

  given_up_small : (l : LockNumber) (rest : List Statement) → Small (given_up w a l rest)
  given_up_small l rest = if_small (holds_lock l here.locks) _ _ (holders_small _ refl refl refl refl refl refl refl) same

  -- ---- the queue and work items

  enqueued_small : (granted refused : List Statement) (v : ℕ) (x : Option ℕ) → Small (enqueued w a granted refused v x)
  enqueued_small granted refused v x =
      cases_small (is_attached (presence_at w.store own)) _ _ (λ e. by_apart _ (queue_apart f w.store own _ (other e)) refl refl)
      (λ e. same)

  insert_small : (granted refused : List Statement) (v : Option ℕ) (c : Option (Option ℕ)) → Small (insert_by w a granted refused v c)
  insert_small granted refused None c = same
  insert_small granted refused (Some v) (Some None) = same
  insert_small granted refused (Some v) (Some (Some x)) = enqueued_small granted refused v (Some x)
  insert_small granted refused (Some v) None = enqueued_small granted refused v None

  removed_small : (o : RemovedVariable) (d : ContextVariable) (granted refused : List Statement) (queue : List Entry) →
      queue_at w.store own ≡ queue → Small (removed w a o d granted refused queue)
  removed_small o d granted refused [] is = same
  removed_small o d granted refused (e ∷ queue) is = pop_dwindles f w.store own e queue is

  defer_small : (routine : ℕ) (granted refused : List Statement) (v : Option ℕ) (c : Option (Option ℕ)) →
      Small (defer_by w a routine false granted refused v c)
  defer_small routine granted refused None c = same
  defer_small routine granted refused (Some v) (Some None) = same
  defer_small routine granted refused (Some v) (Some (Some x)) = same
  defer_small routine granted refused (Some v) None = same

  generic_small : (routine : ℕ) (granted refused : List Statement) (c : Option (Option ℕ)) →
      Small (queue_by w a routine false granted refused c)
  generic_small routine granted refused (Some None) = same
  generic_small routine granted refused (Some (Some x)) = same
  generic_small routine granted refused None = same

  -- ---- completion and the end

  module _ (p : List Filter) where
    -- an answer makes a frame for a visit from before the filters below alone
    answer_small : (v : ℕ) (x : Option ℕ) (answer : Answer) → Dwindles f w.store (settled_by w.store v x (way_of p w.store v answer))
    answer_small v x answer =
        settled_dwindles f w.store v x (way_of p w.store v answer) (λ e.
        frames_before (has_post (callbacks_at p (visit_at w.store v).filter) (arrival_of w.store v).kind) (is_returned answer)
        (visit_at w.store v).stage (given_by answer) e)

    complete_small : (d : OperationVariable) (st : Status) (rest : List Statement) (v : Option ℕ) (c : Option (Option ℕ)) →
        Small (complete_by w a p d st rest v c)
    complete_small d st rest None c = same
    complete_small d st rest (Some v) (Some None) = same
    complete_small d st rest (Some v) (Some (Some x)) = answer_small v (Some x) (CompletesPre (whose d) v st)
    complete_small d st rest (Some v) None = answer_small v None (CompletesPre (whose d) v st)

    complete_post_small : (rest : List Statement) (v : Option ℕ) → Small (complete_post_by w a p rest v)
    complete_post_small rest None = same
    complete_post_small rest (Some v) = answer_small v None (CompletesPost v)

    module _ (t : List Event) where
      returned_small : (st : Option Status) (b : Bool) (v : Option ℕ) → Small (returned p t w a st b v)
      returned_small st true (Some v) = answer_small v _ (Returned st)
      returned_small st true None = same
      returned_small st false v = same

      returns_small : (st : Option Status) → Small (returns p t w a st)
      returns_small st = returned_small st (answers (actor_at w a).place) (operation_in here Data)

      -- ---- each statement

      plain_small : (rest : List Statement) (c : PlainCall) → Small (plain_step p t w a rest c)
      plain_small rest (plain_call.DeleteContext c) = deleted_small rest (context_in here c)
      plain_small rest (plain_call.ReferenceContext c d) = referenced_small d rest (context_in here c)
      plain_small rest (plain_call.ReleaseContext c) = released_small rest (context_in here c)
      plain_small rest (plain_call.AcquireLock kind l) = taken_small l Exclusive rest
      plain_small rest (plain_call.AcquirePushLockShared l) = taken_small l Shared rest
      plain_small rest (plain_call.ReleaseLock kind l) = given_up_small l rest
      plain_small rest (plain_call.CompletePendedPreOperation d st) =
          complete_small d st rest (operation_in here d) (named_in here (context_of st))
      plain_small rest plain_call.CompletePendedPostOperation = complete_post_small rest (operation_in here Data)

      -- a call that can fail, refused where it may be
      fallible_small : (granted refused : List Statement) (c : FallibleCall Routine) →
          Small (fallible_step p t w a (not (may_be_refused c)) granted refused c)
      fallible_small granted refused (fallible.AllocateContext d) = allocate_small d false granted refused
      fallible_small granted refused (fallible.GetContext on d) =
          get_by_small d granted refused (link_of w.store own on (operation_in here Data))
      fallible_small granted refused (fallible.SetContext on existing c old) =
          set_small existing old granted refused (context_in here c) (link_of w.store own on (operation_in here Data))
          (link_own on (operation_in here Data))
      fallible_small granted refused (fallible.DeleteContextOf on old) =
          delete_by_small old granted refused (link_of w.store own on (operation_in here Data))
      fallible_small granted refused (fallible.InsertIo c) = insert_small granted refused (operation_in here Data) (named_in here c)
      fallible_small granted refused (fallible.RemoveNextIo o d) = removed_small o d granted refused (queue_at w.store own) refl
      fallible_small granted refused (fallible.QueueDeferredIoWorkItem r c) =
          defer_small (routine_of (callbacks_at p own) r) granted refused (operation_in here Data) (named_in here c)
      fallible_small granted refused (fallible.QueueGenericWorkItem r c) =
          generic_small (routine_of (callbacks_at p own) r) granted refused (named_in here c)

      value_read : (n : NumberVariable) (rest : List Statement) (x : Option ℕ) → Small (read_value_of w a n rest x)
      value_read n rest None = same
      value_read n rest (Some x) = same

      value_visits : (x value : ℕ) → (put_value w.store x value).visits ≡ w.store.visits
      value_visits x value = if_same (λ s. s.visits) (is_freed (context_at w.store x)) _ _ _ refl refl

      value_settled : (x value : ℕ) → (put_value w.store x value).settled ≡ w.store.settled
      value_settled x value = if_same (λ s. s.settled) (is_freed (context_at w.store x)) _ _ _ refl refl

      value_written : (value : Atom) (rest : List Statement) (x : Option ℕ) → Small (write_value_of w a value rest x)
      value_written value rest None = same
      value_written value rest (Some x) = by_apart _ (value_apart f w.store x _) (value_visits x _) (value_settled x _)

      file_read : (n : NumberVariable) (rest : List Statement) (v : Option ℕ) → Small (read_file_of w a n rest v)
      file_read n rest None = same
      file_read n rest (Some v) = same

      irp_tested : (holds fails : List Statement) (v : Option ℕ) → Small (test_irp_of w a holds fails v)
      irp_tested holds fails None = same
      irp_tested holds fails (Some v) = same

      act_small : (rest : List Statement) (x : Action) → AfterStep (act_step p t w a rest x) Small
      act_small rest (action.ReadValue n c) = value_read n rest (context_in here c)
      act_small rest (action.ReadFile n d) = file_read n rest (operation_in here d)
      act_small rest (action.WriteValue c x) = value_written x rest (context_in here c)
      act_small rest (action.SetNumber n x) = tt
      act_small rest (action.ClearContext c) = tt
      act_small rest (action.ClearOperation o) = tt

      test_small : (x : Test) (holds fails : List Statement) → AfterStep (test_step p t w a holds fails x) Small
      test_small test.IsIrp holds fails = irp_tested holds fails (operation_in here Data)
      test_small (test.ContextIsSome c) holds fails = tt
      test_small (test.OperationIsSome o) holds fails = tt
      test_small (test.Equal n x) holds fails = tt
      test_small (test.Less n x) holds fails = tt
      test_small test.IsDraining holds fails = tt

      branch_small : (asked : Condition) (granted refused : List Statement) →
          AfterStep (if_step p t w a (not (leaves_choice asked)) granted refused asked) Small
      branch_small (condition.Test x) granted refused = test_small x granted refused
      branch_small (condition.Succeeds c) granted refused = fallible_small granted refused c

      statement_small : (rest : List Statement) (layer : Statement-F Statement) →
          AfterStep (statement_step p t w a rest (modest layer) layer) Small
      statement_small rest (Statement-F.Act span x) = act_small rest x
      statement_small rest (Statement-F.Call span c) = plain_small rest c
      statement_small rest (Statement-F.Return span st) = returns_small st
      statement_small rest (Statement-F.If span asked granted refused) = branch_small asked (granted ++ rest) (refused ++ rest)
      statement_small rest (Statement-F.Repeat span turns block) = tt

      -- a step that others see, where nothing is granted that may be refused
      pub list_small : (list : List Statement) → AfterStep (list_step p t w a list (modest_list list)) Small
      list_small [] = returns_small None
      list_small (st ∷ rest) = when Small (may_go w a (modest (out-Statement st)) (out-Statement st)) _
          (λ h. statement_small rest (out-Statement st))
