-- Hand-over: an operation goes from a variable to a queue, a work item or the filter manager, and perhaps a context with it. What
-- the variables lose is what the receiver then has; they keep the numbers and are past them. The first call that does so stands
-- here, FltCbdqInsertIo; Queueing and the folder `ends` have the others.
-- p is the program, m the moment, a the activation, s its shadow; d and c are variables, v a visit, x a context, if there is one.
use Rattle.std.proofs.Common.{◌≡◌, ℕ, ◌<◌, Bool, true, false, List, [], ◌∷◌, ◌++◌, length}
use Rattle.std.proofs.Common.{map, Option, Some, None, ap, sym, subst, refl, ◌∙◌, arith}
use Rattle.std.specs.Prelude.{not, ◌&&◌, if◌then◌else◌}
use Rattle.std.proofs.lemmas.Option.{slice_get_within}
use Rattle.std.proofs.Math.ListN.{set}
use Rattle.std.proofs.Math.Seq.{map-set_same}
use Rattle.std.proofs.lemmas.List.{map-set, length-set}
use Rattle.flt_rules.specs.Columns.{has_place}
use Rattle.flt_rules.specs.Place.{same_mode}
use Rattle.flt_rules.specs.declared.call.Call.TheVariants as call
use Rattle.flt_rules.specs.declared.columns.Places.TheVariants as places
use Rattle.flt_rules.specs.declared.place.Mode.{Mode}
use Rattle.flt_rules.specs.declared.place.Mode.TheVariants.{Irp, Fast}
use Rattle.flt_rules.specs.declared.place.Place.{Place}
use Rattle.flt_rules.specs.declared.place.Place.TheVariants as place
use Rattle.flt_rules.specs.declared.place.Stage.TheVariants as stage
use Rattle.flt_tree.specs.Variable.{context_place, operation_place}
use Rattle.flt_tree.specs.declared.filter.Callback.{Callback}
use Rattle.flt_tree.specs.declared.filter.FallibleCall.TheVariants as fallible_call
use Rattle.flt_tree.specs.declared.filter.Filter.{Filter}
use Rattle.flt_tree.specs.declared.filter.Statement.{Statement}
use Rattle.flt_tree.specs.declared.variable.ContextVariable.{ContextVariable}
use Rattle.flt_tree.specs.declared.variable.OperationVariable.{OperationVariable}
use Rattle.flt_tree.specs.declared.variable.OperationVariable.TheVariants.{Data}
use Rattle.flt_graph.specs.Instruction as graph
use Rattle.flt_abs.specs.Breaks.{is_mode_alone}
use Rattle.flt_abs.specs.Outcome.{put_context, put_operation}
use Rattle.flt_abs.specs.State.{Stale, has_mode}
use Rattle.flt_model.specs.Calls.{enqueued, insert, with_entry}
use Rattle.flt_model.specs.declared.event.Event.{Event}
use Rattle.flt_model.specs.declared.event.Event.TheVariants as event
use Rattle.flt_model.specs.declared.event.Object.{Object}
use Rattle.flt_model.specs.declared.event.Object.TheVariants.{Context, Visit}
use Rattle.flt_model.specs.Effects.{onward, loses_context, goes_on, unchanged}
use Rattle.flt_model.specs.Program.{callbacks_at, has_head, is_canceled}
use Rattle.flt_model.specs.Runs.{Moment}
use Rattle.flt_model.specs.Trace.{gains, loses, frees, settles}
use Rattle.flt_model.specs.declared.parts.Entry.{Entry}
use Rattle.flt_model.specs.World.{Store, arrival_of, queue_at, is_attached, presence_at}
use Rattle.flt_model.specs.Violations.{in_some}
use Rattle.flt_sound.proofs.sums.Eaches.{each_push}
use Rattle.flt_sound.proofs.sums.Counts.{counts, of_actor-same, Has, has_after}
use Rattle.flt_sound.proofs.sums.Shadows.{Unset, Owns, Past, value_of, status_of, own_all-set, Shadow, situation, operation_slot}
use Rattle.flt_sound.proofs.sums.Slots.{owned_there, owned_before}
use Rattle.flt_sound.proofs.sums.Ledger.{Ledger}
use Rattle.flt_sound.proofs.sums.Turns.{Turned, enqueue_turned}
use Rattle.flt_sound.proofs.points.Events.{Events, none, lost, has_context, has_visit}
use Rattle.flt_sound.proofs.points.Kept.{Good, IsAt, StoreChange}
use Rattle.flt_sound.proofs.points.Legal.{spot}
use Rattle.flt_sound.proofs.points.Rows.{PlacedAt, before, state_of, draining_of, AtCall, onward_is, given_mode}
use Rattle.flt_sound.proofs.points.Rows.{owned_context, owned_operation, context_is, operation_is}
use Rattle.flt_sound.proofs.calls.Stores.{queue_stored}
use Rattle.flt_sound.proofs.calls.Effects.{GoodBehind, own_filter, own_place, GivenAt, given_as, in_place}
use Rattle.flt_sound.proofs.calls.Effects.{has_owned_context, has_owned_visit, unchanged_good}
use Rattle.flt_sound.proofs.points.Handed.{names_has, named_own, Names, handed, handed_values, handed_wide, handed_count, handed_situation}
use Rattle.flt_sound.proofs.points.Opened.{Opened, opened_use, opened_uses, behind, ledger_after, clean_after, Keeps}
use Rattle.flt_sound.proofs.points.Stepping.{row_good, running, Touched, held_touch, stood_after, stood_contexts}
use Rattle.flt_sound.proofs.points.Stored.{FitsQueue, IsGiven}
use Rattle.flt_sound.proofs.sums.Handovers.{lost_one, lost_gains, lost_visit}
use Rattle.flt_sound.proofs.sums.Standing.{enqueues}
use Rattle.flt_sound.proofs.sums.Touching.{CleanBy, one_lost_clean}
use Rattle.std.proofs.lemmas.Bool.{or_parts}

-- a set of modes that has IRP alone means IRP
irp_alone : (irp fast : Bool) (mode : Mode) → not (irp && not fast) ≡ false →
    has_mode (record { irp = irp; fast = fast }) mode ≡ true → mode ≡ Irp
irp_alone irp fast Irp e h = refl
irp_alone true true Fast e h = absurd (cc)
irp_alone false fast Fast e h = absurd (cc)
irp_alone true false Fast e h = absurd (cc)

module _ {p : List Filter} {m : Moment} {a : ℕ} {s : Shadow} (at : IsAt p m a s) where
  -- ---- an operation goes, and perhaps a context with it

  -- losing the context breaks nothing, since the variable owns it
  pub context_lost : (c : Option ContextVariable) (x : Option ℕ) → Names at c x → (t : List Event) →
      ((y : ℕ) → Has m.trace a (Context y) → Has t a (Context y)) → Events p m a t (loses_context a x)
  context_lost None None n t k = none t
  context_lost None (Some x) n t k = absurd n
  context_lost (Some c) None n t k = absurd n
  context_lost (Some c) (Some x) n t k = lost (k x (has_context at (context_place c) x n)) (none _)

  -- the context is lost once, if there is one
  pub loses-named : (x : Option ℕ) (y : ℕ) → loses (loses_context a x) a (Context y) ≡ in_some y x
  loses-named None y = simp counts
  loses-named (Some x) y = simp (counts, of_actor-same) (omega arith)

  -- losing a context frees nothing
  pub frees-handed : (x : Option ℕ) (y : ℕ) → frees (loses_context a x) y ≡ 0
  frees-handed None y = simp counts
  frees-handed (Some x) y = simp counts

  -- losing a context settles no visit
  pub settles-handed : (x : Option ℕ) (u : ℕ) → settles (loses_context a x) u ≡ 0
  settles-handed None u = simp counts
  settles-handed (Some x) u = simp counts

  -- what becomes of visit v and of a context that goes with it: events behind the loss of v that gain nothing and lose the
  -- context alone, and a store that has taken both over
  pub record HandOver (v : ℕ) (x : Option ℕ) (store : Store) (tail : List Event) : Type 0 where
    -- they are about what is held
    pub events : (t : List Event) → ((y : ℕ) → Has m.trace a (Context y) → Has t a (Context y)) → Events p m a t tail
    -- they gain nothing and lose the context alone
    pub gains_none : (o : Object) → gains tail a o ≡ 0
    pub loses_no_visit : (u : ℕ) → loses tail a (Visit u) ≡ 0
    pub loses_context : (y : ℕ) → loses tail a (Context y) ≡ in_some y x
    -- the store keeps its invariants, owners and references change by these events, and they touch what may be touched
    pub change : StoreChange p m.world.store store
    pub turned : Turned a m.world.store store (event.Lose a (Visit v) ∷ tail)
    pub ledger : Ledger a m.world.store store (event.Lose a (Visit v) ∷ tail)
    pub clean : CleanBy (Touched at store) tail

  -- a hand-over whose further events are the loss of the context alone
  pub with_context : (v : ℕ) (c : Option ContextVariable) (x : Option ℕ) (store : Store) → Names at c x →
      StoreChange p m.world.store store →
      Turned a m.world.store store (event.Lose a (Visit v) ∷ loses_context a x) →
      Ledger a m.world.store store (event.Lose a (Visit v) ∷ loses_context a x) → HandOver v x store (loses_context a x)
  with_context v c x store n change turned ledger = record {
    events = context_lost c x n;
    gains_none = lost_gains a x a;
    loses_no_visit = lost_visit a x;
    loses_context = lost_one a x;
    change = change;
    turned = turned;
    ledger = ledger;
    clean = one_lost_clean (Touched at store) a x (λ y e. held_touch at store ledger.older y (names_has at c x n y e));
  }

  -- the shadow afterwards: both variables are past what they owned
  abbrev after_hand : OperationVariable → ℕ → Option ContextVariable → Option ℕ → List Statement → Shadow
  after_hand d v c x list = record s { rest = list; contexts = handed at c x; operations = set s.operations (operation_place d) (Past v) }

  -- a hand-over is good, where the rest of the callback stands with both variables stale
  pub hand_good : (pre tail : List Event) (d : OperationVariable) (v : ℕ) (c : Option ContextVariable) (x : Option ℕ)
      (list : List Statement) (store : Store) →
      Opened at pre → operation_slot s d ≡ Owns v → Names at c x → HandOver v x store tail →
      PlacedAt at list (put_operation (Some d) (Some Stale) (put_context c (Some Stale) (before at))) →
      GoodBehind at pre (goes_on m.world a (onward m.world a list) store (event.Lose a (Visit v) ∷ tail))
  hand_good pre tail d v c x list store o owns n h placed =
      let i = operation_place d in
      let there = owned_there s.operations i v owns in
      let new = after_hand d v c x list in
      let es = event.Lose a (Visit v) ∷ tail in
      let values : map value_of (set s.operations i (Past v)) ≡ map value_of s.operations =
      map-set_same value_of s.operations i (Past v) Unset (sym (ap value_of owns)) in
      let seen : put_operation (Some d) (Some Stale) (put_context c (Some Stale) (before at)) ≡ situation (draining_of at) new =
      rw (handed_situation at c x n (before at) refl, map-set status_of s.operations i (Past v)) refl in
      let still_has = λ (t : List Event) (k : Keeps at t) (y : ℕ) (has : Has m.trace a (Context y)).
      has_after t (event.Lose a (Visit v)) a (Context y) (of_actor-same a 0) (k (Context y) has) in
      let events = λ (t : List Event) (k : Keeps at t).
      lost (k (Visit v) (has_visit at i v owns)) (h.events (t ++ event.Lose a (Visit v) ∷ []) (still_has t k)) in
      row_good at new store (pre ++ es) (onward m.world a list)
      (onward_is at list ∙ rw (handed_values at c x n, values) refl)
      (o.events es events)
      (stood_after at new values (λ j u e. owned_before s.operations i j (Past v) u e (λ h. absurd (cc))) refl (handed_wide at c x)
      (length-set s.operations i (Past v)) (subst (λ t. PlacedAt at list t) seen placed))
      h.change
      (λ u. simp (counts, of_actor-same) (let e = rw owns at (own_all-set u s.operations i (Past v) there) in
      omega (arith, e, o.gains_none a (Visit u), o.loses_none a (Visit u), h.gains_none (Visit u), h.loses_no_visit u)))
      (λ y. simp (counts, of_actor-same) (let e = handed_count at c x n y in let l = h.loses_context y in
      omega (arith, e, l, o.gains_none a (Context y), o.loses_none a (Context y), h.gains_none (Context y))))
      (behind at pre es store o h.turned) (running at new refl)
      (ledger_after at pre es store o h.ledger) (clean_after at pre es store o h.ledger h.clean)

  -- a hand-over of a context alone, or of none, is good
  pub context_good : (pre : List Event) (c : Option ContextVariable) (x : Option ℕ) (list : List Statement) (store : Store) →
      Opened at pre → Names at c x →
      StoreChange p m.world.store store → Turned a m.world.store store (loses_context a x) →
      Ledger a m.world.store store (loses_context a x) →
      PlacedAt at list (put_context c (Some Stale) (before at)) →
      GoodBehind at pre (goes_on m.world a (onward m.world a list) store (loses_context a x))
  context_good pre c x list store o n change turned ledger placed =
      let es = loses_context a x in
      let new : Shadow = record s { rest = list; contexts = handed at c x } in
      let clean = one_lost_clean (Touched at store) a x (λ y e. held_touch at store ledger.older y (names_has at c x n y e)) in
      row_good at new store (pre ++ es) (onward m.world a list)
      (onward_is at list ∙ rw (handed_values at c x n) refl)
      (o.events es (λ t k. context_lost c x n t (λ y. k (Context y))))
      (stood_contexts at new refl refl (handed_wide at c x)
      (subst (λ t. PlacedAt at list t) (handed_situation at c x n (before at) refl) placed))
      change
      (λ u. simp counts (omega (arith, o.gains_none a (Visit u), o.loses_none a (Visit u), lost_gains a x a (Visit u), lost_visit a x u)))
      (λ y. simp counts (let e = handed_count at c x n y in
      omega (arith, e, lost_one a x y, o.gains_none a (Context y), o.loses_none a (Context y), lost_gains a x a (Context y))))
      (behind at pre es store o turned) (running at new refl)
      (ledger_after at pre es store o ledger) (clean_after at pre es store o ledger clean)

  -- ---- what a call knows of the given operation

  -- where R06 asks for IRP alone, the activation's mode is IRP
  pub mode_irp : not (is_mode_alone (state_of at).modes Irp) ≡ false → s.mode ≡ Irp
  mode_irp e = let k = (state_of at).modes in irp_alone k.irp k.fast s.mode e (spot at).means.mode

  -- the operation that an activation of that mode was given is an IRP
  pub given_irp : (v : ℕ) → operation_slot s Data ≡ Owns v → s.mode ≡ Irp → same_mode (arrival_of m.world.store v).mode Irp ≡ true
  given_irp v e irp = rw (given_mode at v e, irp) refl

  -- what a pre callback or its work item was given is a visit before the filters below
  pre_given : (v : ℕ) → operation_slot s Data ≡ Owns v → has_place places.PreOrDeferredPre (own_place at) ≡ true → s.mode ≡ Irp →
      IsGiven m.world.store.visits m.world.store.arrivals (own_filter at) stage.Pre Irp v
  pre_given v e h irp = by (own_place at) h
      (subst (λ mode. GivenAt at mode (own_place at) (Some v)) irp (given_as at (Some v) (ap value_of e)))
    where
      by : (q : Place) → has_place places.PreOrDeferredPre q ≡ true → GivenAt at Irp q (Some v) →
          IsGiven m.world.store.visits m.world.store.arrivals (own_filter at) stage.Pre Irp v
      by (place.Pre kind) h g = g.given
      by (place.Post kind) h g = absurd (cc)
      by place.Canceled h g = absurd (cc)
      by place.DeferredPre h g = g
      by place.DeferredPost h g = absurd (cc)
      by place.Generic h g = absurd (cc)

  -- ---- FltCbdqInsertIo

  -- what an entry of the filter's queue must be
  abbrev FitsEntry : Entry → Type 0
  FitsEntry = FitsQueue m.world.store.visits m.world.store.arrivals p (own_filter at)

  -- the store keeps its invariants with an entry more that fits
  entry_stored : (e : Entry) → FitsEntry e → StoreChange p m.world.store (with_entry m.world a e)
  entry_stored e fits =
      let queue = queue_at m.world.store (own_filter at) in
      let all_fit = each_push FitsEntry queue e (at.kept.stored.entries (own_filter at)) fits in
      queue_stored p m.world.store (own_filter at) (queue ++ e ∷ []) at.kept.stored all_fit

  -- each filter has a queue
  queue_there : own_filter at < length m.world.store.queues
  queue_there = omega (arith, at.kept.seats, slice_get_within p (own_filter at) (spot at).filter (spot at).there)

  -- the entry takes visit and context over, or the queue is disabled and all stays
  enqueue_good : (pre : List Event) (v : ℕ) (c : Option ContextVariable) (x : Option ℕ) (granted refused : List Statement) →
      Opened at pre → operation_slot s Data ≡ Owns v → Names at c x → FitsEntry (record { visit = v; context = x }) →
      PlacedAt at granted (put_operation (Some Data) (Some Stale) (put_context c (Some Stale) (before at))) →
      PlacedAt at refused (before at) →
      GoodBehind at pre (enqueued m.world a granted refused v x)
  enqueue_good pre v c x granted refused o owns n fits ok fail = by (is_attached (presence_at m.world.store (own_filter at)))
    where
      entry : Entry
      entry = record { visit = v; context = x }

      hand : HandOver v x (with_entry m.world a entry) (loses_context a x)
      hand = with_context v c x (with_entry m.world a entry) n (entry_stored entry fits)
          (enqueue_turned a m.world.store (own_filter at) entry queue_there)
          (enqueues a m.world.store at.kept.mine (own_filter at) entry queue_there (named_own at x (names_has at c x n)))

      by : (b : Bool) → GoodBehind at pre (if b
          then goes_on m.world a (onward m.world a granted) (with_entry m.world a entry) (event.Lose a (Visit v) ∷ loses_context a x)
          else unchanged m.world a refused)
      by true = hand_good pre (loses_context a x) Data v c x granted (with_entry m.world a entry) o owns n hand ok
      by false = unchanged_good at pre refused o fail

  -- FltCbdqInsertIo is good, where the filter has the callback that takes canceled entries
  pub insert_good : (c : Option ContextVariable) (granted refused : List Statement) →
      AtCall at (graph.fallible (fallible_call.InsertIo c)) granted refused →
      has_head is_canceled (callbacks_at p (own_filter at)) ≡ true →
      Good p m (insert m.world a c granted refused)
  insert_good None granted refused k served =
      let d = owned_operation at Data k.fine.r04 in
      let v = d.object in
      let irp = mode_irp (or_parts _ _ k.fine.r06).0 in
      let e = operation_is at Data (Owns v) d.is in
      let opened = opened_use at call.InsertIo (Visit v) k.clear (rw e (given_irp v d.is irp)) (has_owned_visit at Data d) in
      let fits : FitsEntry (record { visit = v; context = None }) =
      record { given = pre_given v d.is (in_place at places.PreOrDeferredPre _ k.fine.r08) irp; served = served } in
      rw e (enqueue_good (event.Call a call.InsertIo ∷ event.Use a (Visit v) ∷ []) v None None granted refused opened d.is tt fits
      (k.ok true) (k.fails _ refl true))
  insert_good (Some c) granted refused k served =
      let d = owned_operation at Data k.fine.r04 in
      let v = d.object in
      let o = owned_context at c k.fine.r13 in
      let x = o.object in
      let irp = mode_irp (or_parts _ _ k.fine.r06).0 in
      let e = operation_is at Data (Owns v) d.is in
      let opened = opened_uses at call.InsertIo (Visit v) (Context x) k.clear (rw e (given_irp v d.is irp)) (has_owned_visit at Data d)
      (has_owned_context at c o) in
      let fits : FitsEntry (record { visit = v; context = Some x }) =
      record { given = pre_given v d.is (in_place at places.PreOrDeferredPre _ k.fine.r08) irp; served = served } in
      rw (e, context_is at c (Owns x) o.is)
      (enqueue_good (event.Call a call.InsertIo ∷ event.Use a (Visit v) ∷ event.Use a (Context x) ∷ []) v (Some c) (Some x) granted refused
      opened d.is o.is fits (k.ok true) (k.fails _ refl true))
