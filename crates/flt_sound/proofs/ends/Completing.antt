-- Calls that complete an operation which a filter kept: FltCompletePendedPreOperation, of the given operation or of one that was
-- taken out of the queue, and FltCompletePendedPostOperation. The activation had the visit, so it wasn't settled: now it is, once.
-- A context that goes with the status finds its frame.
-- p is the program, m the moment, a the activation, s its shadow; d is the variable, v the visit, st the status, c and x the
-- status's context variable and its context, if it has one.
use Rattle.std.proofs.Common.{◌≡◌, ℕ, Bool, true, false, List, [], ◌∷◌, ◌++◌, Option, Some}
use Rattle.std.proofs.Common.{None, ap, sym, subst, refl, ◌∙◌, arith, append_assoc}
use Rattle.std.specs.Prelude.{not, ◌&&◌, ◌||◌, if◌then◌else◌, is_some}
use Rattle.std.proofs.Math.ListN.{set}
use Rattle.std.proofs.lemmas.Bool.{and_from, and_parts, not-false}
use Rattle.flt_rules.proofs.Operations.{of_each}
use Rattle.flt_rules.specs.Columns.{has_place}
use Rattle.flt_rules.specs.Place.{same_stage}
use Rattle.flt_rules.specs.Table.{complete_places}
use Rattle.flt_rules.specs.Status.{status_row, is_complete, is_with_callback}
use Rattle.flt_rules.specs.declared.call.Call.TheVariants as call
use Rattle.flt_rules.specs.declared.columns.Places.TheVariants as places
use Rattle.flt_rules.specs.declared.place.Operation.{Operation}
use Rattle.flt_rules.specs.declared.place.Place.{Place}
use Rattle.flt_rules.specs.declared.place.Place.TheVariants as place
use Rattle.flt_rules.specs.declared.place.Stage.{Stage}
use Rattle.flt_rules.specs.declared.place.Stage.TheVariants as stage
use Rattle.flt_rules.specs.declared.status.StatusWord.{StatusWord}
use Rattle.flt_rules.specs.declared.call.Call.{Call}
use Rattle.flt_tree.specs.Filter.{word_of, context_of, completes_pending}
use Rattle.flt_tree.specs.Variable.{context_place, operation_place, whose}
use Rattle.flt_tree.specs.declared.filter.Filter.{Filter}
use Rattle.flt_tree.specs.declared.filter.PlainCall.TheVariants as plain_call
use Rattle.flt_tree.specs.declared.filter.Statement.{Statement}
use Rattle.flt_tree.specs.declared.filter.Callback.{Callback}
use Rattle.flt_tree.specs.declared.filter.Status.{Status}
use Rattle.flt_tree.specs.declared.filter.Status.TheVariants as status
use Rattle.flt_tree.specs.declared.variable.ContextVariable.{ContextVariable}
use Rattle.flt_tree.specs.declared.variable.OperationVariable.{OperationVariable}
use Rattle.flt_tree.specs.declared.variable.OperationVariable.TheVariants.{Removed, Data}
use Rattle.flt_graph.specs.Instruction as graph
use Rattle.flt_abs.specs.Breaks.{is_given_in_canceled, is_handed_legally}
use Rattle.flt_abs.specs.Outcome.{put_context, put_operation}
use Rattle.flt_abs.specs.State.{Stale}
use Rattle.flt_model.specs.Calls.{completed, complete_pre, complete_post}
use Rattle.flt_model.specs.declared.event.Answer.{Answer}
use Rattle.flt_model.specs.declared.event.Answer.TheVariants.{CompletesPre, CompletesPost}
use Rattle.flt_model.specs.declared.event.Event.{Event}
use Rattle.flt_model.specs.declared.event.Event.TheVariants as event
use Rattle.flt_model.specs.declared.event.Object.{Object}
use Rattle.flt_model.specs.declared.event.Object.TheVariants.{Context, Visit}
use Rattle.flt_model.specs.Effects.{loses_context}
use Rattle.flt_model.specs.Program.{callbacks_at, has_pre, has_post, is_paired, are_paired}
use Rattle.flt_model.specs.Runs.{Moment}
use Rattle.flt_model.specs.declared.settling.Way.{Way}
use Rattle.flt_model.specs.Settling.{settles_visit, is_returned, given_by, way_of, way_by, is_led, makes_frame, settled_by, led}
use Rattle.flt_model.specs.Statuses.{may_answer, may_hand, fits_canceled, may_pend}
use Rattle.flt_model.specs.World.{Route, route_at, with_route, Store, arrival_of, visit_at}
use Rattle.flt_sound.proofs.sums.Turns.{settle_turned}
use Rattle.flt_sound.proofs.sums.Counts.{counts, of_actor-same, Has}
use Rattle.flt_sound.proofs.sums.Shadows.{Owns, value_of, Shadow, operation_slot}
use Rattle.flt_sound.proofs.points.Rows.{PlacedAt, before, was, setting, AtCall, owned_context, owned_operation, context_is, operation_is}
use Rattle.flt_sound.proofs.points.Events.{Events, none, uses, lost, settled, answered, has_context, has_visit, called as event_called}
use Rattle.flt_sound.proofs.points.Kept.{Good, IsAt}
use Rattle.flt_sound.proofs.points.Legal.{spot, place_same, callbacks_there, Cleared}
use Rattle.flt_sound.proofs.calls.Handing.{loses-named, frees-handed, settles-handed, HandOver, hand_good}
use Rattle.flt_sound.proofs.calls.Effects.{GoodBehind, own_filter, own_place, GivenAt, given_as}
use Rattle.flt_sound.proofs.calls.Effects.{in_place, has_owned_context, has_owned_visit}
use Rattle.flt_sound.proofs.ends.Tests.{implied, needed, allowed}
use Rattle.flt_sound.proofs.ends.Settling.{has_post_of, frames_by, settled_parts}
use Rattle.flt_sound.proofs.ends.Frames.{context_taken, reference_taken, owned_visit, frame_made}
use Rattle.flt_sound.proofs.points.Handed.{names_has, named_own, Names}
use Rattle.flt_sound.proofs.points.Opened.{keeps_on, Opened}
use Rattle.flt_sound.proofs.points.Stepping.{Touched, held_touch}
use Rattle.flt_sound.proofs.sums.Belonging.{Belongs, Older}
use Rattle.flt_sound.proofs.sums.Handovers.{lost_gains, lost_one, lost_visit}
use Rattle.flt_sound.proofs.sums.Standing.{settle_ledger}
use Rattle.flt_sound.proofs.sums.Touching.{use_clean, lost_clean}

-- ---- statuses

-- where every operation with a pre callback has a post callback, one of them has
pair_at : (cs : List Callback) (kind : Operation) → are_paired cs ≡ true → has_pre cs kind ≡ true → has_post cs kind ≡ true
pair_at cs kind e h = implied (has_pre cs kind) (has_post cs kind) (of_each (is_paired cs) e kind) h

-- of the statuses that may be handed on, WITH_CALLBACK alone has a context
handed_with_callback : (st : Status) (c : ContextVariable) → context_of st ≡ Some c → (status_row (word_of st)).handed ≡ true →
    is_with_callback (word_of st) ≡ true
handed_with_callback (status.WithCallback x) c e h = refl
handed_with_callback (status.Synchronize x) c e h = absurd (cc)
handed_with_callback status.NoCallback c e h = absurd (cc)
handed_with_callback (status.Complete f) c e h = absurd (cc)
handed_with_callback status.Pending c e h = absurd (cc)
handed_with_callback status.DisallowFastIo c e h = absurd (cc)
handed_with_callback status.FinishedProcessing c e h = absurd (cc)
handed_with_callback status.MoreProcessingRequired c e h = absurd (cc)

-- an answer that no callback returned settles its visit
settles_unreturned : (post : Bool) (g : Stage) (st : Option Status) → settles_visit (way_by post g false st) ≡ true
settles_unreturned true stage.Pre (Some (status.WithCallback c)) = refl
settles_unreturned false stage.Pre (Some (status.WithCallback c)) = refl
settles_unreturned true stage.Pre (Some (status.Synchronize c)) = refl
settles_unreturned false stage.Pre (Some (status.Synchronize c)) = refl
settles_unreturned post stage.Pre (Some (status.Complete f)) = refl
settles_unreturned post stage.Pre (Some status.Pending) = refl
settles_unreturned post stage.Pre (Some status.DisallowFastIo) = refl
settles_unreturned post stage.Pre (Some status.NoCallback) = refl
settles_unreturned post stage.Pre (Some status.FinishedProcessing) = refl
settles_unreturned post stage.Pre (Some status.MoreProcessingRequired) = refl
settles_unreturned post stage.Pre None = refl
settles_unreturned post stage.Post (Some (status.WithCallback c)) = refl
settles_unreturned post stage.Post (Some (status.Synchronize c)) = refl
settles_unreturned post stage.Post (Some (status.Complete f)) = refl
settles_unreturned post stage.Post (Some status.Pending) = refl
settles_unreturned post stage.Post (Some status.DisallowFastIo) = refl
settles_unreturned post stage.Post (Some status.NoCallback) = refl
settles_unreturned post stage.Post (Some status.FinishedProcessing) = refl
settles_unreturned post stage.Post (Some status.MoreProcessingRequired) = refl
settles_unreturned post stage.Post None = refl

-- settling a visit leaves contexts and their owners as they are
settled_older : (store : Store) (v : ℕ) (x : Option ℕ) (way : Way) → Older store.contexts (settled_by store v x way).contexts
settled_older store v x way = by (settles_visit way) (is_led store v)
  where
    -- the store with the visit's operation led on
    route : Route
    route = led (visit_at store v).filter x way (route_at store (visit_at store v).operation)

    by : (b c : Bool) → let led_store = if c then with_route store (visit_at store v).operation route else store in
        Older store.contexts (if b then record led_store { settled = set led_store.settled v true } else store).contexts
    by true true f x b = b
    by true false f x b = b
    by false c f x b = b

module _ {p : List Filter} {m : Moment} {a : ℕ} {s : Shadow} (at : IsAt p m a s) where
  -- ---- what stands before the effect: the call, its status and what it uses

  -- a call and its status open it, where the status is legal
  opened_status : (k : Call) (answer : Answer) → Cleared p m a k → may_pend p m.world m.trace a k ≡ true →
      may_answer p m.world m.trace a answer ≡ true → Opened at (event.Call a k ∷ event.Status a answer ∷ [])
  opened_status k answer clear pend legal =
      let after_call = m.trace ++ event.Call a k ∷ [] in
      let keeps = keeps_on at after_call (event.Status a answer) (λ o. refl)
      (keeps_on at m.trace (event.Call a k) (λ o. refl) (λ o h. h)) in
      record {
        events = λ es f. event_called k clear pend (answered answer legal (f (after_call ++ event.Status a answer ∷ []) keeps));
        gains_none = λ b o. simp counts;
        loses_none = λ b o. simp counts;
        settles_none = λ v. simp counts;
        frees_none = λ x. simp counts;
        clean = λ store older es c. c;
      }

  -- a use of what the activation has opens a call too, behind what does
  opened_more : (pre : List Event) (o : Object) → Opened at pre → Has m.trace a o → Opened at (pre ++ event.Use a o ∷ [])
  opened_more pre o opened has =
      let behind = λ (es : List Event). append_assoc pre (event.Use a o ∷ []) es in
      let touched = λ (store : Store) (older : Older m.world.store.contexts store.contexts) (x : ℕ) (e : o ≡ Context x).
      held_touch at store older x (subst (λ o. Has m.trace a o) e has) in
      record {
        events = λ es f. rw (behind es) (opened.events (event.Use a o ∷ es)
            (λ t k. uses (k o has) (f (t ++ event.Use a o ∷ []) (keeps_on at t (event.Use a o) (λ o. refl) k))));
        gains_none = λ b q. simp counts (omega (arith, opened.gains_none b q));
        loses_none = λ b q. simp counts (omega (arith, opened.loses_none b q));
        settles_none = λ v. simp counts (omega (arith, opened.settles_none v));
        frees_none = λ x. simp counts (omega (arith, opened.frees_none x));
        clean = λ store older es c. rw (behind es)
            (opened.clean store older (event.Use a o ∷ es) (use_clean (Touched at store) a o es (touched store older) c));
      }

  -- ---- a visit is settled

  -- what follows the loss of the visit: the loss of the context, and the visit is settled
  abbrev settling : Option ℕ → ℕ → List Event
  settling x v = loses_context a x ++ event.Settle v ∷ []

  -- these events break nothing, since the variable owns the context
  settling_events : (c : Option ContextVariable) (x : Option ℕ) (v : ℕ) → Names at c x → (t : List Event) →
      ((y : ℕ) → Has m.trace a (Context y) → Has t a (Context y)) → Events p m a t (settling x v)
  settling_events None None v n t k = settled v (none _)
  settling_events None (Some x) v n t k = absurd n
  settling_events (Some c) None v n t k = absurd n
  settling_events (Some c) (Some x) v n t k = lost (k x (has_context at (context_place c) x n)) (settled v (none _))

  -- an answer that no callback returned is a hand-over to the filter manager
  settled_hand : (d : OperationVariable) (v : ℕ) (c : Option ContextVariable) (x : Option ℕ) (answer : Answer) →
      operation_slot s d ≡ Owns v → Names at c x →
      (is_some x ≡ true → makes_frame m.world.store v (way_of p m.world.store v answer) ≡ true) → is_returned answer ≡ false →
      HandOver at v x (settled_by m.world.store v x (way_of p m.world.store v answer)) (settling x v)
  settled_hand d v c x answer owns n framed unreturned =
      let way = way_of p m.world.store v answer in
      let store = settled_by m.world.store v x way in
      let es = event.Lose a (Visit v) ∷ settling x v in
      let own = owned_visit at d v owns in
      let settles_it : settles_visit way ≡ true =
      rw unreturned (settles_unreturned (has_post_of p m.world.store v) (visit_at m.world.store v).stage (given_by answer)) in
      let belongs : Belongs m.world.store.contexts (visit_at m.world.store v).filter x =
      subst (λ f. Belongs m.world.store.contexts f x) (sym own.filter_is) (named_own at x (names_has at c x n)) in
      let touched = λ (y : ℕ) (e : x ≡ Some y). held_touch at store (settled_older m.world.store v x way) y (names_has at c x n y e) in
      record {
        events = settling_events c x v n;
        gains_none = λ o. simp counts (omega (arith, lost_gains a x a o));
        loses_no_visit = λ u. simp counts (omega (arith, lost_visit a x u));
        loses_context = λ y. simp counts (omega (arith, lost_one a x y));
        change = settled_parts p m.world.store v x way at.kept.stored (frames_by p m.world.store v answer);
        turned = settle_turned a m.world.store v x way es settles_it (at.owned v (has_visit at (operation_place d) v owns))
            (λ u. simp counts (omega (arith, lost_gains a x a (Visit u))))
            (λ u. simp (counts, of_actor-same) (omega (arith, lost_visit a x u)))
            (λ u. simp counts (omega (arith, settles-handed at x u)));
        ledger = settle_ledger a m.world.store at.kept.mine v x way es own.route_there belongs
            (λ y. rw (reference_taken (makes_frame m.world.store v way) x framed y)
            (simp (counts, of_actor-same) (omega (arith, loses-named at x y, lost_gains a x a (Context y)))))
            (λ y. simp counts (omega (arith, frees-handed at x y)));
        clean = lost_clean (Touched at store) a x (event.Settle v ∷ []) touched tt;
      }

  -- completing a visit that a variable owns is good, where a context that goes with the status finds its frame
  completed_good : (pre : List Event) (d : OperationVariable) (v : ℕ) (c : Option ContextVariable) (x : Option ℕ)
      (answer : Answer) (list : List Statement) →
      Opened at pre → operation_slot s d ≡ Owns v → Names at c x →
      (is_some x ≡ true → makes_frame m.world.store v (way_of p m.world.store v answer) ≡ true) → is_returned answer ≡ false →
      PlacedAt at list (put_operation (Some d) (Some Stale) (put_context c (Some Stale) (before at))) →
      GoodBehind at pre (completed m.world a p list v x answer)
  completed_good pre d v c x answer list o owns n framed unreturned placed =
      let way = way_of p m.world.store v answer in
      rw (context_taken a (makes_frame m.world.store v way) x framed)
      (hand_good at pre (settling x v) d v c x list (settled_by m.world.store v x way) o owns n
      (settled_hand d v c x answer owns n framed unreturned) placed)

  -- ---- FltCompletePendedPreOperation

  -- a visit that may be completed so is one before the filters below
  pre_stage : (d : OperationVariable) (v : ℕ) → operation_slot s d ≡ Owns v → has_place (complete_places (whose d)) (own_place at) ≡ true →
      (visit_at m.world.store v).stage ≡ stage.Pre
  pre_stage (Removed o) v e h = ((was at).removed o v e).stage
  pre_stage Data v e h = by (own_place at) h (given_as at (Some v) (ap value_of e))
    where
      by : (q : Place) → has_place places.CanceledOrDeferredPre q ≡ true → GivenAt at s.mode q (Some v) →
          (visit_at m.world.store v).stage ≡ stage.Pre
      by (place.Pre kind) h g = absurd (cc)
      by (place.Post kind) h g = absurd (cc)
      by place.Canceled h g = g.visit.stage
      by place.DeferredPre h g = g.visit.stage
      by place.DeferredPost h g = absurd (cc)
      by place.Generic h g = absurd (cc)

  -- what R06 says of a status that is handed on, at the callback's place
  record IsHandable (d : OperationVariable) (st : Status) : Type 0 where
    handed : (status_row (word_of st)).handed ≡ true
    completes : not (completes_pending st) ≡ true
    canceled : (not (is_given_in_canceled (own_place at) (Some d)) || is_complete (word_of st)) ≡ true
    paired : ((setting at).all_registered || not (is_with_callback (word_of st))) ≡ true

  handable : (d : OperationVariable) (st : Status) →
      is_handed_legally (setting at) (graph.plain (plain_call.CompletePendedPreOperation d st)) st ≡ true →
      IsHandable d st
  handable d st legal =
      let all = and_parts _ _ legal in
      let three = and_parts _ _ all.0 in
      let two = and_parts _ _ three.0 in
      record {
        handed = two.0;
        completes = two.1;
        canceled = subst (λ q. (not (is_given_in_canceled q (Some d)) || is_complete (word_of st)) ≡ true) (place_same (spot at)) three.1;
        paired = all.1;
      }

  -- the machine's test of a cancelled entry's operation is the checker's
  canceled_fits : (q : Place) (d : OperationVariable) (st : StatusWord) → (not (is_given_in_canceled q (Some d)) || is_complete st) ≡ true →
      fits_canceled p m.world m.trace a q (whose d) st ≡ true
  canceled_fits (place.Pre kind) d st h = refl
  canceled_fits (place.Post kind) d st h = refl
  canceled_fits place.Canceled Data st h = h
  canceled_fits place.Canceled (Removed o) st h = refl
  canceled_fits place.DeferredPre d st h = refl
  canceled_fits place.DeferredPost d st h = refl
  canceled_fits place.Generic d st h = refl

  -- where the graph's operations have their post callbacks, the filter's have
  own_paired : (setting at).all_registered ≡ true → are_paired (callbacks_at p (own_filter at)) ≡ true
  own_paired h =
      let q = spot at in
      rw (callbacks_there p (own_filter at) q.filter q.there)
      (sym (q.laws.pairs q.filter.callbacks q.graph.callbacks q.lowered.callbacks) ∙ h)

  -- the machine's test of the status follows
  hand_legal : (d : OperationVariable) (v : ℕ) (st : Status) → operation_slot s d ≡ Owns v →
      has_place (complete_places (whose d)) (own_place at) ≡ true →
      IsHandable d st → may_hand p m.world m.trace a (whose d) v st ≡ true
  hand_legal d v st e h k =
      let stage_is : same_stage (visit_at m.world.store v).stage stage.Pre ≡ true = rw (pre_stage d v e h) refl in
      let fits = canceled_fits (own_place at) d (word_of st) k.canceled in
      let pairs = allowed (setting at).all_registered (are_paired (callbacks_at p (own_filter at)))
      (is_with_callback (word_of st)) own_paired k.paired in
      and_from _ _ (and_from _ _ (and_from _ _ (and_from _ _ stage_is k.handed) k.completes) fits) pairs

  -- a context that is handed on finds its frame: the filter has a pre callback for the operation, so it has a post callback
  handed_frame : (d : OperationVariable) (v : ℕ) (st : Status) (c : ContextVariable) → operation_slot s d ≡ Owns v →
      has_place (complete_places (whose d)) (own_place at) ≡ true → IsHandable d st → context_of st ≡ Some c →
      makes_frame m.world.store v (way_of p m.world.store v (CompletesPre (whose d) v st)) ≡ true
  handed_frame d v st c owns h k same =
      let kind = (arrival_of m.world.store v).kind in
      let own = owned_visit at d v owns in
      let stage_is = pre_stage d v owns h in
      let all : (setting at).all_registered ≡ true = needed _ _ k.paired (handed_with_callback st c same k.handed) in
      let asked : has_pre (callbacks_at p (own_filter at)) kind ≡ true =
      subst (λ f. has_pre (callbacks_at p f) kind ≡ true) own.filter_is (at.kept.stored.before v own.there stage_is).asked in
      let post : has_post_of p m.world.store v ≡ true =
      subst (λ f. has_post (callbacks_at p f) kind ≡ true) (sym own.filter_is)
      (pair_at (callbacks_at p (own_filter at)) kind (own_paired all) asked) in
      frame_made at v (CompletesPre (whose d) v st) st c refl same own.there stage_is post (has_visit at (operation_place d) v owns)

  complete_pre_by : (d : OperationVariable) (st : Status) (list : List Statement) →
      AtCall at (graph.plain (plain_call.CompletePendedPreOperation d st)) list list →
      (c : Option ContextVariable) → context_of st ≡ c → Good p m (complete_pre m.world a p d st list)
  complete_pre_by d st list k None same =
      let o = owned_operation at d k.fine.r04 in
      let v = o.object in
      let call_event = event.Call a (call.CompletePendedPreOperation (whose d)) in
      let status_event = event.Status a (CompletesPre (whose d) v st) in
      let here = in_place at (complete_places (whose d)) _ k.fine.r08 in
      let legal = hand_legal d v st o.is here (handable d st (not-false _ k.fine.r06)) in
      let opened = opened_status (call.CompletePendedPreOperation (whose d)) (CompletesPre (whose d) v st) k.clear refl legal in
      let uses_visit = opened_more (call_event ∷ status_event ∷ []) (Visit v) opened (has_owned_visit at d o) in
      rw (operation_is at d (Owns v) o.is, same)
      (completed_good (call_event ∷ status_event ∷ event.Use a (Visit v) ∷ []) d v None None (CompletesPre (whose d) v st) list
      uses_visit o.is tt (λ h. absurd (cc)) refl (rw same at (k.ok true)))
  complete_pre_by d st list k (Some c) same =
      let o = owned_operation at d k.fine.r04 in
      let v = o.object in
      let y = owned_context at c (rw same at k.fine.r13) in
      let x = y.object in
      let call_event = event.Call a (call.CompletePendedPreOperation (whose d)) in
      let status_event = event.Status a (CompletesPre (whose d) v st) in
      let here = in_place at (complete_places (whose d)) _ k.fine.r08 in
      let fits = handable d st (not-false _ k.fine.r06) in
      let opened = opened_status (call.CompletePendedPreOperation (whose d)) (CompletesPre (whose d) v st) k.clear refl
      (hand_legal d v st o.is here fits) in
      let uses_visit = opened_more (call_event ∷ status_event ∷ []) (Visit v) opened (has_owned_visit at d o) in
      let uses_both = opened_more (call_event ∷ status_event ∷ event.Use a (Visit v) ∷ []) (Context x) uses_visit
      (has_owned_context at c y) in
      rw (operation_is at d (Owns v) o.is, same, context_is at c (Owns x) y.is)
      (completed_good (call_event ∷ status_event ∷ event.Use a (Visit v) ∷ event.Use a (Context x) ∷ []) d v (Some c) (Some x)
      (CompletesPre (whose d) v st) list
      uses_both o.is y.is (λ h. handed_frame d v st c o.is here fits same) refl (rw same at (k.ok true)))

  -- FltCompletePendedPreOperation is good
  pub complete_pre_good : (d : OperationVariable) (st : Status) (list : List Statement) →
      AtCall at (graph.plain (plain_call.CompletePendedPreOperation d st)) list list →
      Good p m (complete_pre m.world a p d st list)
  complete_pre_good d st list k = complete_pre_by d st list k (context_of st) refl

  -- ---- FltCompletePendedPostOperation

  -- the work item of a post callback was given a visit after the filters below
  post_stage : (v : ℕ) → operation_slot s Data ≡ Owns v → has_place places.DeferredPost (own_place at) ≡ true →
      (visit_at m.world.store v).stage ≡ stage.Post
  post_stage v e h = by (own_place at) h (given_as at (Some v) (ap value_of e))
    where
      by : (q : Place) → has_place places.DeferredPost q ≡ true → GivenAt at s.mode q (Some v) →
          (visit_at m.world.store v).stage ≡ stage.Post
      by (place.Pre kind) h g = absurd (cc)
      by (place.Post kind) h g = absurd (cc)
      by place.Canceled h g = absurd (cc)
      by place.DeferredPre h g = absurd (cc)
      by place.DeferredPost h g = g.visit.stage
      by place.Generic h g = absurd (cc)

  -- FltCompletePendedPostOperation is good
  pub complete_post_good : (list : List Statement) → AtCall at (graph.plain plain_call.CompletePendedPostOperation) list list →
      Good p m (complete_post m.world a p list)
  complete_post_good list k =
      let o = owned_operation at Data k.fine.r04 in
      let v = o.object in
      let call_event = event.Call a call.CompletePendedPostOperation in
      let status_event = event.Status a (CompletesPost v) in
      let here = in_place at places.DeferredPost _ k.fine.r08 in
      let legal : same_stage (visit_at m.world.store v).stage stage.Post ≡ true = rw (post_stage v o.is here) refl in
      let opened = opened_status call.CompletePendedPostOperation (CompletesPost v) k.clear refl legal in
      let uses_visit = opened_more (call_event ∷ status_event ∷ []) (Visit v) opened (has_owned_visit at Data o) in
      rw (operation_is at Data (Owns v) o.is)
      (completed_good (call_event ∷ status_event ∷ event.Use a (Visit v) ∷ []) Data v None None (CompletesPost v) list
      uses_visit o.is tt (λ h. absurd (cc)) refl (k.ok true))
