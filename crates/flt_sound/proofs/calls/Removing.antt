-- FltCbdqRemoveNextIo: the first entry of the filter's queue gives its visit and its context, if it has one, to two variables that
-- own nothing; an empty queue makes both NULL. What leaves the queue the variables then own, so owners and references are as many
-- as before.
-- p is the program, m the moment, a the activation, s its shadow; o is the variable of the operation, d that of the context, e the
-- entry, v and x what the variables are afterwards.
use Rattle.std.proofs.Common.{◌≡◌, ℕ, true, false, List, [], ◌∷◌, ◌++◌, length, Option, Some}
use Rattle.std.proofs.Common.{None, ap, sym, subst, refl, ◌∙◌, arith, inl, inr, ◌<◌}
use Rattle.std.proofs.Math.ListN.{set, get_or}
use Rattle.std.proofs.lemmas.Bool.{cases_eq, cases_lt, or_parts}
use Rattle.std.proofs.lemmas.List.{map-set, length-set, get_or-set_same, get_or-set_other, get_or_past}
use Rattle.std.proofs.lemmas.List.Sums.{sum_by-cons}
use Rattle.flt_rules.specs.declared.call.Call.TheVariants as call
use Rattle.flt_rules.specs.declared.place.Stage.TheVariants as stage
use Rattle.flt_tree.specs.Variable.{context_place, operation_place}
use Rattle.flt_tree.specs.declared.filter.Callback.{Callback}
use Rattle.flt_tree.specs.declared.filter.FallibleCall.TheVariants as fallible_call
use Rattle.flt_tree.specs.declared.filter.Filter.{Filter}
use Rattle.flt_tree.specs.declared.filter.Statement.{Statement}
use Rattle.flt_tree.specs.declared.variable.ContextVariable.{ContextVariable}
use Rattle.flt_tree.specs.declared.variable.OperationVariable.TheVariants.{Removed}
use Rattle.flt_tree.specs.declared.variable.RemovedVariable.{RemovedVariable}
use Rattle.flt_graph.specs.Instruction as graph
use Rattle.flt_abs.specs.Outcome.{put_context, put_operation}
use Rattle.flt_abs.specs.Variables.{context_in as state_context, operation_in as state_operation}
use Rattle.flt_abs.specs.State.{Held}
use Rattle.flt_model.specs.Calls.{removed, remove_next}
use Rattle.flt_model.specs.declared.event.Event.{Event}
use Rattle.flt_model.specs.declared.event.Event.TheVariants as event
use Rattle.flt_model.specs.declared.event.Object.{Object}
use Rattle.flt_model.specs.declared.event.Object.TheVariants.{Context, Visit}
use Rattle.flt_model.specs.Effects.{onward, gains_context, goes_on}
use Rattle.flt_model.specs.Runs.{Moment}
use Rattle.flt_model.specs.Trace.{gains, loses}
use Rattle.flt_model.specs.Variables.{with_context_in, with_operation_in}
use Rattle.flt_model.specs.declared.parts.Entry.{Entry}
use Rattle.flt_model.specs.World.{Store, queue_at, with_queue}
use Rattle.flt_model.specs.Violations.{in_some}
use Rattle.flt_sound.proofs.sums.Eaches.{Each}
use Rattle.flt_sound.proofs.sums.Counts.{counts, of_actor-same, one_if-same}
use Rattle.flt_sound.proofs.sums.Shadows.{Slot, Unset, Owns, value_of, status_of, given, own, Shadow}
use Rattle.flt_sound.proofs.sums.Slots.{not_held, own_all-put, context_there, operation_there, data_stays}
use Rattle.flt_sound.proofs.sums.Ledger.{Ledger}
use Rattle.flt_sound.proofs.sums.Turns.{Turned, dequeue_turned}
use Rattle.flt_sound.proofs.points.Events.{Events, none, gained}
use Rattle.flt_sound.proofs.points.Kept.{Good, IsAt, StoreChange}
use Rattle.flt_sound.proofs.points.Legal.{spot}
use Rattle.flt_sound.proofs.points.Rows.{PlacedAt, before, state_of, was, AtCall, onward_is}
use Rattle.flt_sound.proofs.calls.Stores.{queue_stored}
use Rattle.flt_sound.proofs.calls.Effects.{GoodBehind, own_filter, same_store, no_turn, no_ledger}
use Rattle.flt_sound.proofs.points.Opened.{Opened, opened_call, behind, ledger_after, clean_after}
use Rattle.flt_sound.proofs.points.Stepping.{row_good, running, Touched, alive_fresh}
use Rattle.flt_sound.proofs.points.Stored.{FitsQueue, IsVisit}
use Rattle.flt_sound.proofs.sums.Belonging.{Belongs}
use Rattle.flt_sound.proofs.sums.Handovers.{gained_one, gained_loses, gained_free}
use Rattle.flt_sound.proofs.sums.Standing.{leaves_queue}
use Rattle.flt_sound.proofs.sums.Touching.{CleanBy, given_clean}

-- a variable that is given an object names it, and one that is given none is NULL
pub given_value : (x : Option ℕ) → value_of (given x) ≡ x
given_value None = refl
given_value (Some x) = refl

module _ {p : List Filter} {m : Moment} {a : ℕ} {s : Shadow} (at : IsAt p m a s) where
  -- what is taken out: events that lose and free nothing and gain what the variables own afterwards, and the store without it
  record Takes (v x : Slot) (store : Store) (es : List Event) : Type 0 where
    events : (t : List Event) → Events p m a t es
    loses_none : (q : Object) → loses es a q ≡ 0
    visits : (u : ℕ) → gains es a (Visit u) ≡ own u v
    contexts : (y : ℕ) → gains es a (Context y) ≡ own y x
    fits : (u : ℕ) → v ≡ Owns u → IsVisit m.world.store.visits m.world.store.arrivals (own_filter at) stage.Pre u
    change : StoreChange p m.world.store store
    turned : Turned a m.world.store store es
    ledger : Ledger a m.world.store store es
    clean : CleanBy (Touched at store) es

  -- the shadow afterwards
  abbrev after_taking : RemovedVariable → Slot → ContextVariable → Slot → List Statement → Shadow
  after_taking o v d x list =
      record s { rest = list; contexts = set s.contexts (context_place d) x; operations = set s.operations (operation_place (Removed o)) v }

  -- a step that takes out is good, where both variables may receive
  taken_good : (pre es : List Event) (o : RemovedVariable) (v : Slot) (d : ContextVariable) (x : Slot) (list : List Statement)
      (store : Store) → Opened at pre →
      (state_context (state_of at) d).held ≡ false → (state_operation (state_of at) (Removed o)).held ≡ false → Takes v x store es →
      PlacedAt at list (put_operation (Some (Removed o)) (Some (status_of v)) (put_context (Some d) (Some (status_of x)) (before at))) →
      GoodBehind at pre (goes_on m.world a
      (with_context_in (with_operation_in (onward m.world a list) (Removed o) (value_of v)) d (value_of x)) store es)
  taken_good pre es o v d x list store opened context_free operation_free takes placed =
      let new = after_taking o v d x list in
      let i = operation_place (Removed o) in
      let j = context_place d in
      let w = was at in
      let q = spot at in
      let i_there : i < length s.operations = omega (arith, w.broad, operation_there (Removed o)) in
      let j_there : j < length s.contexts = omega (arith, w.wide, context_there d) in
      let no_visit = λ (u : ℕ). not_held q.state.operations s.operations i u q.means.operations operation_free in
      let no_context = λ (y : ℕ). not_held q.state.contexts s.contexts j y q.means.contexts context_free in
      row_good at new store (pre ++ es) (with_context_in (with_operation_in (onward m.world a list) (Removed o) (value_of v)) d
      (value_of x))
      (ap (λ act. with_context_in (with_operation_in act (Removed o) (value_of v)) d (value_of x)) (onward_is at list)
      ∙ rw (map-set value_of s.contexts j x, map-set value_of s.operations i v) refl)
      (opened.events es (λ t k. takes.events t))
      (λ on. record {
        placed = rw (map-set status_of s.contexts j x, map-set status_of s.operations i v) placed;
        given = rw (data_stays s.operations o v) w.given;
        removed = λ r u e. elim (cases_eq (operation_place (Removed r)) i) [
          | inl same ↦ takes.fits u (sym (get_or-set_same s.operations i v Unset i_there)
              ∙ (ap (λ k. get_or (set s.operations i v) k Unset) (sym same) ∙ e))
          | inr ne ↦ w.removed r u (sym (get_or-set_other s.operations i (operation_place (Removed r)) v Unset ne) ∙ e)
        ];
        wide = length-set s.contexts j x ∙ w.wide;
        broad = length-set s.operations i v ∙ w.broad;
      })
      takes.change
      (λ u. simp counts (omega (
        arith,
        own_all-put u s.operations i v (no_visit u) i_there,
        opened.gains_none a (Visit u),
        opened.loses_none a (Visit u),
        takes.loses_none (Visit u),
        takes.visits u,
      )))
      (λ y. simp counts (omega (
        arith,
        own_all-put y s.contexts j x (no_context y) j_there,
        opened.gains_none a (Context y),
        opened.loses_none a (Context y),
        takes.loses_none (Context y),
        takes.contexts y,
      )))
      (behind at pre es store opened takes.turned) (running at new refl)
      (ledger_after at pre es store opened takes.ledger) (clean_after at pre es store opened takes.ledger takes.clean)

  -- ---- a context that may be there is gained, and nothing else happens

  gains_given : (t : List Event) (x : Option ℕ) → Events p m a t (gains_context a x)
  gains_given t None = none t
  gains_given t (Some x) = gained (Context x) (none _)

  gains-given : (x : Option ℕ) (y : ℕ) → gains (gains_context a x) a (Context y) ≡ own y (given x)
  gains-given None y = simp counts
  gains-given (Some x) y = simp (counts, of_actor-same) (omega arith)

  gains-given_visit : (x : Option ℕ) (u : ℕ) → gains (gains_context a x) a (Visit u) ≡ 0
  gains-given_visit None u = simp counts
  gains-given_visit (Some x) u = simp (counts, of_actor-same)

  loses-given : (x : Option ℕ) (q : Object) → loses (gains_context a x) a q ≡ 0
  loses-given None q = simp counts
  loses-given (Some x) q = simp counts

  -- ---- the queue

  -- the events of an entry that is taken out
  abbrev taking : Entry → List Event
  taking e = event.Gain a (Visit e.visit) ∷ gains_context a e.context

  -- the store with the rest of the queue
  abbrev shorter : List Entry → Store
  shorter queue = with_queue m.world.store (own_filter at) queue

  -- each entry's context belongs to the filter
  abbrev AreOwn : List Entry → Type 0
  AreOwn queue = Each (λ (e : Entry). Belongs m.world.store.contexts (own_filter at) e.context) queue

  -- a filter whose queue has an entry has a queue
  queue_there : (e : Entry) (rest : List Entry) → queue_at m.world.store (own_filter at) ≡ e ∷ rest →
      own_filter at < length m.world.store.queues
  queue_there e rest same =
      elim (cases_lt (own_filter at) (length m.world.store.queues)) [
        | inl h ↦ h
        | inr past ↦ let bad : [] ≡ e ∷ rest = sym (get_or_past m.world.store.queues (own_filter at) [] past) ∙ same in absurd (cc)
      ]

  -- the entry's reference is the variable's
  taking_ledger : (e : Entry) (rest : List Entry) → queue_at m.world.store (own_filter at) ≡ e ∷ rest →
      Ledger a m.world.store (shorter rest) (taking e)
  taking_ledger e rest same =
      let own : AreOwn (e ∷ rest) = subst (λ l. AreOwn l) same (at.kept.mine.entries (own_filter at)) in
      leaves_queue a m.world.store at.kept.mine (own_filter at) e rest (taking e) (queue_there e rest same)
      (λ x. rw same (omega (arith, sum_by-cons (λ (e : Entry). in_some x e.context) e rest))) own.1
      (λ x. simp (counts, of_actor-same) (omega (arith, gained_one a e.context x)))
      (λ x. simp counts (omega (arith, gained_loses a e.context a (Context x))))
      (λ x. simp counts (omega (arith, gained_free a e.context x)))

  -- the entry's context has a reference, so it wasn't freed, and it is the filter's own
  entry_touch : (e : Entry) (rest : List Entry) → queue_at m.world.store (own_filter at) ≡ e ∷ rest → (y : ℕ) → e.context ≡ Some y →
      Touched at (shorter rest) a y
  entry_touch e rest same y some =
      let l = taking_ledger e rest same in
      let lost : loses (taking e) a (Context y) ≡ 0 = simp counts (omega (arith, gained_loses a e.context a (Context y))) in
      let got : gains (taking e) a (Context y) ≡ 1 =
      simp (counts, of_actor-same) (omega (arith, gained_one a e.context y, ap (in_some y) some, one_if-same y)) in
      let own : AreOwn (e ∷ rest) = subst (λ l. AreOwn l) same (at.kept.mine.entries (own_filter at)) in (
        alive_fresh at y (omega (arith, at.kept.count y, l.refs y, lost, got)),
        subst (λ x. Belongs m.world.store.contexts (own_filter at) x) some own.0,
      )

  -- an empty queue gives nothing
  takes_nothing : Takes Unset Unset m.world.store []
  takes_nothing = record {
    events = λ t. none t;
    loses_none = λ q. simp counts;
    visits = λ u. simp counts;
    contexts = λ y. simp counts;
    fits = λ u e. absurd (cc);
    change = (same_store at).change;
    turned = no_turn at;
    ledger = no_ledger at;
    clean = tt;
  }

  -- any other queue gives its first entry
  takes_first : (e : Entry) (rest : List Entry) → queue_at m.world.store (own_filter at) ≡ e ∷ rest →
      Each (FitsQueue m.world.store.visits m.world.store.arrivals p (own_filter at)) (e ∷ rest) →
      Takes (Owns e.visit) (given e.context) (shorter rest) (taking e)
  takes_first e rest same fits = record {
    events = λ t. gained (Visit e.visit) (gains_given _ e.context);
    loses_none = λ q. simp counts (omega (arith, loses-given e.context q));
    visits = λ u. simp (counts, of_actor-same) (omega (arith, gains-given_visit e.context u));
    contexts = λ y. simp (counts, of_actor-same) (omega (arith, gains-given e.context y));
    fits = λ u is.
        let v : e.visit ≡ u = cc in
        subst (λ u. IsVisit m.world.store.visits m.world.store.arrivals (own_filter at) stage.Pre u) v fits.0.given.visit;
    change = queue_stored p m.world.store (own_filter at) rest at.kept.stored fits.1;
    turned = dequeue_turned a m.world.store (own_filter at) e rest same;
    ledger = taking_ledger e rest same;
    clean = given_clean (Touched at (shorter rest)) a e.context (λ y some. entry_touch e rest same y some);
  }

  -- ---- FltCbdqRemoveNextIo

  -- FltCbdqRemoveNextIo is good, whether the queue is empty or not
  pub remove_good : (o : RemovedVariable) (d : ContextVariable) (granted refused : List Statement) →
      AtCall at (graph.fallible (fallible_call.RemoveNextIo o d)) granted refused → Good p m (remove_next m.world a o d granted refused)
  remove_good o d granted refused k = by (queue_at m.world.store (own_filter at)) refl (at.kept.stored.entries (own_filter at))
    where
      call_event : List Event
      call_event = event.Call a call.RemoveNextIo ∷ []

      opened : Opened at call_event
      opened = opened_call at call.RemoveNextIo k.clear refl

      -- by what the entry's context may be
      ok : (x : Option ℕ) → PlacedAt at granted
          (put_operation (Some (Removed o)) (Some Held) (put_context (Some d) (Some (status_of (given x))) (before at)))
      ok None = k.ok false
      ok (Some x) = k.ok true

      by : (queue : List Entry) → queue_at m.world.store (own_filter at) ≡ queue →
          Each (FitsQueue m.world.store.visits m.world.store.arrivals p (own_filter at)) queue →
          GoodBehind at call_event (removed m.world a o d granted refused queue)
      by [] same fits =
          taken_good call_event [] o Unset d Unset refused m.world.store opened (or_parts _ _ k.fine.r03).0 (or_parts _ _ k.fine.r03).1
          takes_nothing (k.fails _ refl true)
      by (e ∷ rest) same fits =
          rw (given_value e.context) at
          (taken_good call_event (taking e) o (Owns e.visit) d (given e.context) granted (shorter rest) opened
          (or_parts _ _ k.fine.r03).0 (or_parts _ _ k.fine.r03).1 (takes_first e rest same fits) (ok e.context))
