-- Calls that queue work items: FltQueueDeferredIoWorkItem hands the given operation to an item, FltQueueGenericWorkItem none, and
-- both may hand a context with it. An item that is queued has a routine of the kind that the call wants, so that the callback
-- that later runs it stands at the first point of its own text.
-- p is the program, m the moment, a the activation, s its shadow; i is an item, r a routine's name and `routine` its number.
use Rattle.std.proofs.Common.{◌≡◌, ℕ, ◌+◌, Bool, true, false, List, [], ◌∷◌, ◌++◌, length}
use Rattle.std.proofs.Common.{Option, Some, None, ap, subst, refl, arith, inl, inr}
use Rattle.std.specs.Prelude.{slice_get, if◌then◌else◌}
use Rattle.std.proofs.Math.ListN.{get_or, get_or-append}
use Rattle.std.proofs.Math.Seq.{get_or-append_seam}
use Rattle.std.proofs.lemmas.Bool.{cases_eq, cases_lt, or_parts}
use Rattle.std.proofs.lemmas.List.{length-append, get_or_past}
use Rattle.std.proofs.lemmas.List.Sums.{sum_by_push}
use Rattle.flt_rules.specs.Columns.{has_place}
use Rattle.flt_rules.specs.declared.call.Call.TheVariants as call
use Rattle.flt_rules.specs.declared.columns.Places.TheVariants as places
use Rattle.flt_rules.specs.declared.place.Mode.TheVariants.{Irp}
use Rattle.flt_rules.specs.declared.place.Place.{Place}
use Rattle.flt_rules.specs.declared.place.Place.TheVariants as place
use Rattle.flt_tree.specs.declared.filter.Callback.{Callback}
use Rattle.flt_tree.specs.declared.filter.FallibleCall.TheVariants as fallible_call
use Rattle.flt_tree.specs.declared.filter.Filter.{Filter}
use Rattle.flt_tree.specs.declared.filter.Statement.{Statement}
use Rattle.flt_tree.specs.declared.variable.ContextVariable.{ContextVariable}
use Rattle.flt_tree.specs.declared.variable.OperationVariable.TheVariants.{Data}
use Rattle.flt_graph.specs.Instruction as graph
use Rattle.flt_abs.specs.Outcome.{put_context, put_operation}
use Rattle.flt_abs.specs.State.{Stale}
use Rattle.flt_model.specs.Calls.{with_item, deferred, queued, queue_deferred, queue_generic}
use Rattle.flt_model.specs.declared.event.Event.{Event}
use Rattle.flt_model.specs.declared.event.Event.TheVariants as event
use Rattle.flt_model.specs.declared.event.Object.TheVariants.{Context, Visit}
use Rattle.flt_model.specs.Effects.{loses_context, unchanged}
use Rattle.flt_model.specs.Program.{callbacks_at, place_at}
use Rattle.flt_model.specs.Runs.{Moment}
use Rattle.flt_model.specs.declared.parts.Item.{Item}
use Rattle.flt_model.specs.Violations.{in_some}
use Rattle.flt_model.specs.Trace.{gains, loses, frees}
use Rattle.flt_sound.proofs.sums.Counts.{counts, of_actor-same}
use Rattle.flt_sound.proofs.sums.Shadows.{Owns, value_of, Shadow, operation_slot}
use Rattle.flt_sound.proofs.sums.Ledger.{Ledger, moved}
use Rattle.flt_sound.proofs.sums.Differences.{in_work}
use Rattle.flt_sound.proofs.sums.Turns.{defer_turned, item_turned}
use Rattle.flt_sound.proofs.points.Events.{none, lost}
use Rattle.flt_sound.proofs.points.Kept.{Good, IsAt, StoreChange}
use Rattle.flt_sound.proofs.points.Rows.{PlacedAt, before, AtCall, owned_context, owned_operation, context_is, operation_is}
use Rattle.flt_sound.proofs.calls.Handing.{loses-named, frees-handed, settles-handed, with_context}
use Rattle.flt_sound.proofs.calls.Handing.{hand_good, context_good, mode_irp, given_irp}
use Rattle.flt_sound.proofs.calls.Stores.{items_stored, items_mine}
use Rattle.flt_sound.proofs.calls.Effects.{GoodBehind, own_filter, own_place, GivenAt, given_as, in_place}
use Rattle.flt_sound.proofs.calls.Effects.{has_owned_context, has_owned_visit, unchanged_good}
use Rattle.flt_sound.proofs.points.Handed.{Names, names_has, named_own}
use Rattle.flt_sound.proofs.points.Opened.{Opened, opened_call, opened_use, opened_uses}
use Rattle.flt_sound.proofs.points.Stored.{IsItem, FitsItem}
use Rattle.flt_sound.proofs.sums.Belonging.{Belongs, BelongsItem}
use Rattle.flt_sound.proofs.sums.Handovers.{lost_visit, lost_gains}

-- what holds of each item, and of none, holds with one more item of which it holds
item_push : (P : Option Item → Type 0) (items : List (Option Item)) (i : Item) → P None → ((n : ℕ) → P (get_or items n None)) → P (Some i) →
    (n : ℕ) → P (get_or (items ++ Some i ∷ []) n None)
item_push P items i none h e n =
    elim (cases_eq n (length items)) [
      | inl same ↦ rw (same, get_or-append_seam items (Some i) [] None) e
      | inr ne ↦ elim (cases_lt n (length items)) [
        | inl there ↦ rw (get_or-append items (Some i ∷ []) None n there) (h n)
        | inr past ↦ rw (get_or_past (items ++ Some i ∷ []) n None (omega (arith, length-append items (Some i ∷ [])))) none
      ]
    ]

-- the callback of that number is there, and is of that place
pub record IsRoutineAt (cs : List Callback) (q : Place) (routine : ℕ) : Type 0 where
  pub callback : Callback
  pub there : slice_get cs routine ≡ Some callback
  pub place_is : place_at cs routine ≡ q

module _ {p : List Filter} {m : Moment} {a : ℕ} {s : Shadow} (at : IsAt p m a s) where
  -- the callbacks of the activation's filter
  abbrev callbacks : List Callback
  callbacks = callbacks_at p (own_filter at)

  -- ---- one more item

  -- an item that the machine's invariant allows
  abbrev IsFitting : Item → Type 0
  IsFitting i = FitsItem m.world.store.visits m.world.store.arrivals p i

  -- the store keeps its invariants with an item more that fits
  item_stored : (i : Item) → IsFitting i → StoreChange p m.world.store (with_item m.world a i)
  item_stored i fits =
      let k = at.kept.stored in
      let all_fit = item_push (IsItem m.world.store.visits m.world.store.arrivals p) m.world.store.items i tt k.items fits in
      items_stored p m.world.store (m.world.store.items ++ Some i ∷ []) k all_fit

  -- the item has the reference that the activation loses
  item_ledger : (i : Item) (es : List Event) → Belongs m.world.store.contexts i.filter i.context →
      ((y : ℕ) → loses es a (Context y) ≡ gains es a (Context y) + in_some y i.context) → ((y : ℕ) → frees es y ≡ 0) →
      Ledger a m.world.store (with_item m.world a i) es
  item_ledger i es own lost free =
      let all_own = item_push (BelongsItem m.world.store.contexts) m.world.store.items i tt at.kept.mine.items own in
      let mine = items_mine m.world.store (m.world.store.items ++ Some i ∷ []) at.kept.mine all_own in
      moved a m.world.store (with_item m.world a i) es refl mine
      (λ y. omega (arith, sum_by_push (in_work y) m.world.store.items (Some i), lost y)) free

  -- ---- FltQueueDeferredIoWorkItem

  -- the routine fits what the callback was given
  abbrev pub Fits : ℕ → Place → Type 0
  Fits routine (place.Pre kind) = IsRoutineAt callbacks place.DeferredPre routine
  Fits routine (place.Post kind) = IsRoutineAt callbacks place.DeferredPost routine
  Fits routine _ = Unit {0}

  -- the item that takes over what a pre or post callback was given is one that fits
  deferred_fits : (routine v : ℕ) (x : Option ℕ) → operation_slot s Data ≡ Owns v →
      has_place places.PreOrPost (own_place at) ≡ true → s.mode ≡ Irp →
      Fits routine (own_place at) → IsFitting (record { filter = own_filter at; routine = routine; visit = Some v; context = x })
  deferred_fits routine v x e h irp fits =
      by (own_place at) h fits (subst (λ mode. GivenAt at mode (own_place at) (Some v)) irp (given_as at (Some v) (ap value_of e)))
    where
      by : (q : Place) → has_place places.PreOrPost q ≡ true → Fits routine q → GivenAt at Irp q (Some v) →
          IsFitting (record { filter = own_filter at; routine = routine; visit = Some v; context = x })
      by (place.Pre kind) h f g = record {
        given = rw f.place_is g.given;
        callback = f.callback;
        there = f.there;
        is_work = rw f.place_is refl;
      }
      by (place.Post kind) h f g = record {
        given = rw f.place_is g.given;
        callback = f.callback;
        there = f.there;
        is_work = rw f.place_is refl;
      }
      by place.Canceled h f g = absurd (cc)
      by place.DeferredPre h f g = absurd (cc)
      by place.DeferredPost h f g = absurd (cc)
      by place.Generic h f g = absurd (cc)

  -- a step in which the item takes visit and context over, or in which the system refuses, is good
  defer_good : (pre : List Event) (v : ℕ) (c : Option ContextVariable) (x : Option ℕ) (routine : ℕ) (grant : Bool)
      (granted refused : List Statement) →
      Opened at pre → operation_slot s Data ≡ Owns v → Names at c x →
      IsFitting (record { filter = own_filter at; routine = routine; visit = Some v; context = x }) →
      PlacedAt at granted (put_operation (Some Data) (Some Stale) (put_context c (Some Stale) (before at))) →
      PlacedAt at refused (before at) →
      GoodBehind at pre (if grant then deferred m.world a routine granted v x else unchanged m.world a refused)
  defer_good pre v c x routine true granted refused o owns n fits ok fail =
      let i : Item = record { filter = own_filter at; routine = routine; visit = Some v; context = x } in
      let ledger = item_ledger i (event.Lose a (Visit v) ∷ loses_context a x) (named_own at x (names_has at c x n))
      (λ y. simp (counts, of_actor-same) (omega (arith, loses-named at x y, lost_gains a x a (Context y))))
      (λ y. simp counts (omega (arith, frees-handed at x y))) in
      let hand = with_context at v c x (with_item m.world a i) n (item_stored i fits) (defer_turned a m.world.store i v refl) ledger in
      hand_good at pre (loses_context a x) Data v c x granted (with_item m.world a i) o owns n hand ok
  defer_good pre v c x routine false granted refused o owns n fits ok fail = unchanged_good at pre refused o fail

  -- FltQueueDeferredIoWorkItem is good, where the routine fits the callback
  pub deferred_good : (n routine : ℕ) (c : Option ContextVariable) (grant : Bool)
      (granted refused : List Statement) →
      AtCall at (graph.fallible (fallible_call.QueueDeferredIoWorkItem n c)) granted refused → Fits routine (own_place at) →
      Good p m (queue_deferred m.world a routine c grant granted refused)
  deferred_good n routine None grant granted refused k fits =
      let d = owned_operation at Data k.fine.r04 in
      let v = d.object in
      let irp = mode_irp at (or_parts _ _ k.fine.r06).0 in
      let e = operation_is at Data (Owns v) d.is in
      let opened = opened_use at call.QueueDeferredIoWorkItem (Visit v) k.clear (rw e (given_irp at v d.is irp))
      (has_owned_visit at Data d) in
      let item = deferred_fits routine v None d.is (in_place at places.PreOrPost _ k.fine.r08) irp fits in
      rw e
      (defer_good (event.Call a call.QueueDeferredIoWorkItem ∷ event.Use a (Visit v) ∷ []) v None None routine grant granted refused
      opened d.is tt item (k.ok true) (k.fails _ refl true))
  deferred_good n routine (Some c) grant granted refused k fits =
      let d = owned_operation at Data k.fine.r04 in
      let v = d.object in
      let o = owned_context at c k.fine.r13 in
      let x = o.object in
      let irp = mode_irp at (or_parts _ _ k.fine.r06).0 in
      let e = operation_is at Data (Owns v) d.is in
      let opened = opened_uses at call.QueueDeferredIoWorkItem (Visit v) (Context x) k.clear (rw e (given_irp at v d.is irp))
      (has_owned_visit at Data d) (has_owned_context at c o) in
      let item = deferred_fits routine v (Some x) d.is (in_place at places.PreOrPost _ k.fine.r08) irp fits in
      rw (e, context_is at c (Owns x) o.is)
      (defer_good (event.Call a call.QueueDeferredIoWorkItem ∷ event.Use a (Visit v) ∷ event.Use a (Context x) ∷ []) v (Some c)
      (Some x) routine grant granted refused
      opened d.is o.is item (k.ok true) (k.fails _ refl true))

  -- ---- FltQueueGenericWorkItem

  -- a step in which the item takes the context over, or in which the system refuses, is good
  queue_good : (pre : List Event) (c : Option ContextVariable) (x : Option ℕ) (routine : ℕ) (grant : Bool)
      (granted refused : List Statement) →
      Opened at pre → Names at c x → IsRoutineAt callbacks place.Generic routine →
      PlacedAt at granted (put_context c (Some Stale) (before at)) → PlacedAt at refused (before at) →
      GoodBehind at pre (if grant then queued m.world a routine granted x else unchanged m.world a refused)
  queue_good pre c x routine true granted refused o n f ok fail =
      let i : Item = record { filter = own_filter at; routine = routine; visit = None; context = x } in
      let fits : IsFitting i = record {
        given = rw f.place_is refl;
        callback = f.callback;
        there = f.there;
        is_work = rw f.place_is refl;
      } in
      let turned = item_turned a m.world.store i (loses_context a x) refl (λ u. lost_gains a x a (Visit u))
      (λ u. lost_visit a x u) (settles-handed at x) in
      let ledger = item_ledger i (loses_context a x) (named_own at x (names_has at c x n))
      (λ y. omega (arith, loses-named at x y, lost_gains a x a (Context y))) (frees-handed at x) in
      context_good at pre c x granted (with_item m.world a i) o n (item_stored i fits) turned ledger ok
  queue_good pre c x routine false granted refused o n f ok fail = unchanged_good at pre refused o fail

  -- FltQueueGenericWorkItem is good, where the routine is there
  pub generic_good : (n routine : ℕ) (c : Option ContextVariable) (grant : Bool)
      (granted refused : List Statement) →
      AtCall at (graph.fallible (fallible_call.QueueGenericWorkItem n c)) granted refused → IsRoutineAt callbacks place.Generic routine →
      Good p m (queue_generic m.world a routine c grant granted refused)
  generic_good n routine None grant granted refused k f =
      let opened = opened_call at call.QueueGenericWorkItem k.clear refl in
      queue_good (event.Call a call.QueueGenericWorkItem ∷ []) None None routine grant granted refused opened tt f (k.ok true)
      (k.fails _ refl true)
  generic_good n routine (Some c) grant granted refused k f =
      let o = owned_context at c k.fine.r13 in
      let x = o.object in
      let opened = opened_use at call.QueueGenericWorkItem (Context x) k.clear refl (has_owned_context at c o) in
      rw (context_is at c (Owns x) o.is)
      (queue_good (event.Call a call.QueueGenericWorkItem ∷ event.Use a (Context x) ∷ []) (Some c) (Some x) routine grant granted refused
      opened o.is f (k.ok true) (k.fails _ refl true))
