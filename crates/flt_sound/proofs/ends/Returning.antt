-- The end of an activation, by `return` or by the end of its body. A callback that answers for its operation gives the visit back: it
-- loses the visit where it owns it, and the visit is settled in just that case; the context that goes with the status goes to a
-- frame. Then nothing is left in the variables, so the end leaks nothing.
-- p is the program, m the moment, a the activation, s its shadow; st is the status, v the visit that the callback was given, c and
-- x the status's context variable and its context.
use Rattle.std.proofs.Common.{◌≡◌, ℕ, ◌+◌, ◌≤◌, Bool, true, false, List, [], ◌∷◌, ◌++◌}
use Rattle.std.proofs.Common.{map, Option, Some, None, ap, sym, subst, refl, ◌∙◌, arith}
use Rattle.std.specs.Prelude.{if◌then◌else◌, is_some}
use Rattle.std.proofs.Math.ListN.{set}
use Rattle.std.proofs.Math.Seq.{map-set_same}
use Rattle.flt_rules.specs.Place.{answers, fits_stage}
use Rattle.flt_rules.specs.Status.{status_row}
use Rattle.flt_rules.specs.declared.place.Place.{Place}
use Rattle.flt_rules.specs.declared.place.Place.TheVariants as place
use Rattle.flt_rules.specs.declared.place.Stage.{Stage}
use Rattle.flt_rules.specs.declared.place.Stage.TheVariants as stage
use Rattle.flt_rules.specs.declared.status.Possession.TheVariants as possession
use Rattle.flt_tree.specs.Filter.{word_of, context_of, named_context}
use Rattle.flt_tree.specs.declared.filter.Status.TheVariants as status
use Rattle.flt_tree.specs.Variable.{context_place, operation_place}
use Rattle.flt_tree.specs.declared.filter.Filter.{Filter}
use Rattle.flt_tree.specs.declared.filter.Status.{Status}
use Rattle.flt_tree.specs.declared.variable.ContextVariable.{ContextVariable}
use Rattle.flt_tree.specs.declared.variable.OperationVariable.TheVariants.{Data}
use Rattle.flt_graph.specs.declared.instruction.Instruction.TheVariants as instruction
use Rattle.flt_model.specs.declared.event.Answer.TheVariants.{Returned}
use Rattle.flt_model.specs.declared.event.Event.{Event}
use Rattle.flt_model.specs.declared.event.Event.TheVariants as event
use Rattle.flt_model.specs.declared.event.Object.{Object}
use Rattle.flt_model.specs.declared.event.Object.TheVariants.{Context, Visit}
use Rattle.flt_model.specs.Program.{callbacks_at, has_post}
use Rattle.flt_model.specs.Returns.{returns, returned, ends}
use Rattle.flt_model.specs.Runs.{Moment}
use Rattle.flt_model.specs.declared.settling.Way.{Way}
use Rattle.flt_model.specs.Settling.{lead, way_by, way_of, makes_frame, settles_visit, settled_by}
use Rattle.flt_model.specs.Statuses.{may_answer, is_possessed}
use Rattle.flt_model.specs.Trace.{gains, loses, one_if, is_held}
use Rattle.flt_model.specs.World.{Store, Activation, activation_at, arrival_of, visit_at}
use Rattle.flt_model.specs.Variables.{operation_in}
use Rattle.flt_sound.proofs.sums.Shadows.{Slot, Unset, Owns, Past, value_of, own, own_all, own_all-set, Shadow, operation_slot}
use Rattle.flt_sound.proofs.sums.Slots.{owned_there}
use Rattle.flt_sound.proofs.sums.Ledger.{Ledger}
use Rattle.flt_sound.proofs.sums.Turns.{Turned, calm_turned, settle_turned}
use Rattle.flt_sound.proofs.sums.Counts.{counts, gains-append, loses-append, of_actor-same, Has, held_where, held_back, not_held_where}
use Rattle.flt_sound.proofs.points.Kept.{Good, IsAt, contexts_at, visits_at, activation_is}
use Rattle.flt_sound.proofs.points.Legal.{spot, place_same}
use Rattle.flt_sound.proofs.points.Placed.{here, fine}
use Rattle.flt_sound.proofs.points.Events.{Events, none, uses, lost, settled, ended, has_context, has_visit, answered as event_answered}
use Rattle.flt_sound.proofs.points.Rows.{was, owned_context, context_is, operation_is}
use Rattle.flt_sound.proofs.calls.Handing.{context_lost, loses-named}
use Rattle.flt_sound.proofs.calls.Effects.{own_filter, own_place, GivenAt, same_store}
use Rattle.flt_sound.proofs.ends.Ending.{Ending, when, answer, used, lost_if, taken_if, settled_if, given_back, front, ending}
use Rattle.flt_sound.proofs.ends.Ending.{in_turn, has_later, loses-used, loses-lost_if, front_does, ending_does, ending_turned}
use Rattle.flt_sound.proofs.ends.Frames.{reference_taken, given_visit, frame_made}
use Rattle.flt_sound.proofs.ends.ReturnRules.{without_locks, AtReturn, no_locks, contexts_free, none_held, all_past, silent_free}
use Rattle.flt_sound.proofs.ends.ReturnRules.{returnable, held_asked, away_asked, stage_is, post_is, answer_legal}
use Rattle.flt_sound.proofs.ends.Tests.{implied}
use Rattle.flt_sound.proofs.ends.Settling.{has_post_of, frames_by, settled_parts}
use Rattle.flt_sound.proofs.points.Handed.{Names, names_has, named_own, handed, handed_values, handed_count}
use Rattle.flt_sound.proofs.points.Opened.{Keeps}
use Rattle.flt_sound.proofs.points.Stepping.{Touched, held_touch, row_good, calm_of, quiet_ledger}
use Rattle.flt_sound.proofs.sums.Belonging.{Belongs}
use Rattle.flt_sound.proofs.sums.Handovers.{lost_one}
use Rattle.flt_sound.proofs.sums.Standing.{settle_ledger}

-- a status that is returned settles its visit where its row asks for an operation that is held
settles_held : (post : Bool) (g : Stage) (st : Status) → (status_row (word_of st)).data ≡ possession.Held →
    settles_visit (way_by post g true (Some st)) ≡ true
settles_held true stage.Pre (status.WithCallback c) e = refl
settles_held false stage.Pre (status.WithCallback c) e = refl
settles_held true stage.Pre (status.Synchronize c) e = refl
settles_held false stage.Pre (status.Synchronize c) e = refl
settles_held post stage.Pre (status.Complete f) e = refl
settles_held post stage.Pre status.Pending e = absurd (cc)
settles_held post stage.Pre status.DisallowFastIo e = refl
settles_held post stage.Pre status.NoCallback e = refl
settles_held post stage.Pre status.FinishedProcessing e = refl
settles_held post stage.Pre status.MoreProcessingRequired e = absurd (cc)
settles_held post stage.Post (status.WithCallback c) e = refl
settles_held post stage.Post (status.Synchronize c) e = refl
settles_held post stage.Post (status.Complete f) e = refl
settles_held post stage.Post status.Pending e = absurd (cc)
settles_held post stage.Post status.DisallowFastIo e = refl
settles_held post stage.Post status.NoCallback e = refl
settles_held post stage.Post status.FinishedProcessing e = refl
settles_held post stage.Post status.MoreProcessingRequired e = absurd (cc)

-- a status that is returned doesn't settle its visit where its row asks for an operation that was given away
settles_no_more : (post : Bool) (g : Stage) (st : Status) → g ≡ (status_row (word_of st)).stage →
    (status_row (word_of st)).data ≡ possession.GivenAway →
    settles_visit (way_by post g true (Some st)) ≡ false
settles_no_more post g (status.WithCallback c) h e = absurd (cc)
settles_no_more post g (status.Synchronize c) h e = absurd (cc)
settles_no_more post g (status.Complete f) h e = absurd (cc)
settles_no_more post g status.Pending h e = rw h refl
settles_no_more post g status.DisallowFastIo h e = absurd (cc)
settles_no_more post g status.NoCallback h e = absurd (cc)
settles_no_more post g status.FinishedProcessing h e = absurd (cc)
settles_no_more post g status.MoreProcessingRequired h e = rw h refl

-- a visit that isn't settled leaves the store as it is
unsettled_turned : (a : ℕ) (s next_store : Store) (u : ℕ) (b : Bool) → b ≡ false →
    Turned a s (if b then record next_store { settled = set next_store.settled u true } else s) []
unsettled_turned a s next_store u true e = absurd (cc)
unsettled_turned a s next_store u false e = calm_turned a s s [] refl refl refl (λ v. simp counts) (λ v. simp counts)

-- owners change by the visit's part of an end, where it is known whether the visit is held and settled
turned_when : (a : ℕ) (s new : Store) (v : ℕ) (b held settled : Bool) → held ≡ b → settled ≡ b →
    Turned a s new (lost_if a b v ++ settled_if a b v) →
    Turned a s new (lost_if a held v ++ settled_if a settled v)
turned_when a s new v b held settled h e t = rw (h, e) t

-- a status that names a context is returned before the filters below, about an operation that is held, and needs a post callback
record IsAsking (st : Status) : Type 0 where
  needs : (status_row (word_of st)).needs_post ≡ true
  held : (status_row (word_of st)).data ≡ possession.Held
  before : (status_row (word_of st)).stage ≡ stage.Pre

asking : (st : Status) (c : ContextVariable) → context_of st ≡ Some c → IsAsking st
asking (status.WithCallback x) c e = record { needs = refl; held = refl; before = refl }
asking (status.Synchronize x) c e = record { needs = refl; held = refl; before = refl }
asking status.NoCallback c e = absurd (cc)
asking (status.Complete f) c e = absurd (cc)
asking status.Pending c e = absurd (cc)
asking status.DisallowFastIo c e = absurd (cc)
asking status.FinishedProcessing c e = absurd (cc)
asking status.MoreProcessingRequired c e = absurd (cc)

-- a callback of a place that has a status of its stage answers for its operation
stage_answers : (q : Place) (g : Stage) → fits_stage q g ≡ true → answers q ≡ true
stage_answers (place.Pre kind) g h = refl
stage_answers (place.Post kind) g h = refl
stage_answers place.Canceled g h = absurd (cc)
stage_answers place.DeferredPre g h = absurd (cc)
stage_answers place.DeferredPost g h = absurd (cc)
stage_answers place.Generic g h = absurd (cc)

module _ {p : List Filter} {m : Moment} {a : ℕ} {s : Shadow} (at : IsAt p m a s) where
  -- ---- an end with a status about visit v

  -- where the status leads the visit's operation
  abbrev way : Status → ℕ → Way
  way st v = way_of p m.world.store v (Returned (Some st))

  -- the end, with the context that goes with the status
  abbrev end_of : Status → Option ℕ → ℕ → Ending
  end_of st x v = record {
    status = st;
    context = x;
    visit = v;
    held = is_held m.trace a (Visit v);
    framed = makes_frame m.world.store v (way st v);
    settled = settles_visit (way st v);
  }

  -- the store after it
  abbrev end_store : Status → Option ℕ → ℕ → Store
  end_store st x v = settled_by m.world.store v x (way st v)

  -- what is known of the visit, by whether the activation owns it: the row asks for it so, the operations that remain in the
  -- variables are none, the visit is lost and settled or neither, and a context that goes with the status finds a frame
  record IsGivenBack (st : Status) (x : Option ℕ) (v : ℕ) (operations : List Slot) : Type 0 where
    possessed : is_possessed (is_held m.trace a (Visit v)) (status_row (word_of st)).data ≡ true
    values : map value_of s.operations ≡ map value_of operations
    count : (u : ℕ) → when (is_held m.trace a (Visit v)) (one_if v u) + own_all u operations ≡ own_all u s.operations
    empty : (u : ℕ) → own_all u operations ≡ 0
    turned : Turned a m.world.store (end_store st x v)
        (lost_if a (is_held m.trace a (Visit v)) v ++ settled_if a (settles_visit (way st v)) v)
    framed : is_some x ≡ true → makes_frame m.world.store v (way st v) ≡ true

  -- references change by the loss of the context alone, and a frame has it
  end_ledger : (st : Status) (c : Option ContextVariable) (x : Option ℕ) (v : ℕ) → Names at c x →
      value_of (operation_slot s Data) ≡ Some v →
      Ledger a m.world.store (end_store st x v) (ending a (end_of st x v))
  end_ledger st c x v n e =
      let own = given_visit at v e in
      let does = ending_does a (λ b y. Unit {0}) (end_of st x v) (λ y h. tt) in
      settle_ledger a m.world.store at.kept.mine v x (way st v) (ending a (end_of st x v)) own.route_there
      (subst (λ f. Belongs m.world.store.contexts f x) (sym own.filter_is) (named_own at x (names_has at c x n)))
      (λ y. omega (arith, does.gain (Context y), does.context y)) does.free

  -- using the context breaks nothing
  used_events : (c : Option ContextVariable) (x : Option ℕ) → Names at c x → (t : List Event) → Keeps at t → Events p m a t (used a x)
  used_events None None n t k = none t
  used_events None (Some x) n t k = absurd n
  used_events (Some c) None n t k = absurd n
  used_events (Some c) (Some x) n t k = uses (k (Context x) (has_context at (context_place c) x n)) (none _)

  -- losing the visit breaks nothing, where it is held
  lost_events : (b : Bool) (v : ℕ) → is_held m.trace a (Visit v) ≡ b → (t : List Event) → (Has m.trace a (Visit v) → Has t a (Visit v)) →
      Events p m a t (lost_if a b v)
  lost_events true v h t k = lost (k (held_back m.trace a (Visit v) h)) (none _)
  lost_events false v h t k = none t

  -- losing the context breaks nothing
  taken_events : (b : Bool) (c : Option ContextVariable) (x : Option ℕ) → Names at c x → (t : List Event) →
      ((y : ℕ) → Has m.trace a (Context y) → Has t a (Context y)) → Events p m a t (taken_if a b x)
  taken_events false c x n t k = none t
  taken_events true c x n t k = context_lost at c x n t k

  -- settling the visit breaks nothing
  settled_events : (b : Bool) (v : ℕ) (t : List Event) → Events p m a t (settled_if a b v)
  settled_events true v t = settled v (none _)
  settled_events false v t = none t

  -- no event of the end breaks anything
  end_events : (st : Status) (c : Option ContextVariable) (x : Option ℕ) (v : ℕ) → AtReturn at (Some st) → context_of st ≡ c →
      Names at c x →
      may_answer p m.world m.trace a (Returned (Some st)) ≡ true → (is_some x ≡ true → makes_frame m.world.store v (way st v) ≡ true) →
      Events p m a m.trace (ending a (end_of st x v))
  end_events st c x v r named n legal framed =
      let e = end_of st x v in
      let does = front_does a (λ b y. Unit {0}) e (λ y h. tt) in
      let after_answer = m.trace ++ answer a st in
      let after_use = after_answer ++ used a x in
      let after_loss = after_use ++ lost_if a e.held v in
      let keeps1 = λ (o : Object) (h : Has m.trace a o). has_later m.trace (answer a st) a o (simp counts) h in
      let keeps2 = λ (o : Object) (h : Has m.trace a o). has_later after_answer (used a x) a o (loses-used a x o) (keeps1 o h) in
      let keeps3 = λ (y : ℕ) (h : Has m.trace a (Context y)). has_later after_use (lost_if a e.held v) a (Context y)
      (loses-lost_if a e.held v y) (keeps2 (Context y) h) in
      let even : (y : ℕ) → gains (m.trace ++ front a e) a (Context y) ≤ loses (m.trace ++ front a e) a (Context y) = λ y.
      omega (
        arith,
        gains-append m.trace (front a e) a (Context y),
        loses-append m.trace (front a e) a (Context y),
        does.gain (Context y),
        does.context y,
        reference_taken e.framed x framed y,
        loses-named at x y,
        lost_one a x y,
        handed_count at c x n y,
        contexts_at at y,
        contexts_free at (Some st) c x r n named y,
      ) in
      in_turn m.trace (front a e) (event.End a ∷ [])
      (in_turn m.trace (answer a st) (used a x ++ given_back a e) (event_answered (Returned (Some st)) legal (none _))
      (in_turn after_answer (used a x) (given_back a e) (used_events c x n after_answer keeps1)
      (in_turn after_use (lost_if a e.held v ++ taken_if a e.framed x) (settled_if a e.settled v)
      (in_turn after_use (lost_if a e.held v) (taken_if a e.framed x) (lost_events e.held v refl after_use (keeps2 (Visit v)))
      (taken_events e.framed c x n after_loss keeps3))
      (settled_events e.settled v (after_use ++ (lost_if a e.held v ++ taken_if a e.framed x))))))
      (ended (no_locks at (Some st) r) even (none _))

  -- an end that gives the visit back is good
  end_good : (st : Status) (c : Option ContextVariable) (x : Option ℕ) (v : ℕ) (operations : List Slot) →
      AtReturn at (Some st) → context_of st ≡ c → Names at c x → value_of (operation_slot s Data) ≡ Some v → IsGivenBack st x v operations →
      Good p m (ends p m.trace m.world a (end_store st x v) (front a (end_of st x v)))
  end_good st c x v operations r named n e back =
      let store = end_store st x v in
      let es = ending a (end_of st x v) in
      let does = ending_does a (λ b y. Unit {0}) (end_of st x v) (λ y h. tt) in
      let new : Shadow = record s { rest = []; contexts = handed at c x; operations = operations; ended = true } in
      let legal = answer_legal at st v (returnable at st r) e back.possessed in
      let ledger = end_ledger st c x v n e in
      let touched = λ (y : ℕ) (h : x ≡ Some y). held_touch at store ledger.older y (names_has at c x n y h) in
      row_good at new store es (record (activation_at m.world a) { rest = []; ended = true })
      (ap (λ (act : Activation). record act { rest = []; ended = true }) (activation_is at) ∙ rw (handed_values at c x n, back.values) refl)
      (end_events st c x v r named n legal back.framed) (λ on. absurd (cc))
      (settled_parts p m.world.store v x (way st v) at.kept.stored (frames_by p m.world.store v (Returned (Some st))))
      (λ u. omega (arith, does.gain (Visit u), does.visit u, back.count u))
      (λ y. omega (
        arith,
        does.gain (Context y),
        does.context y,
        reference_taken (makes_frame m.world.store v (way st v)) x back.framed y,
        loses-named at x y,
        lost_one a x y,
        handed_count at c x n y,
      ))
      (ending_turned a m.world.store store (end_of st x v) back.turned)
      (λ on. record { visits = back.empty; contexts = contexts_free at (Some st) c x r n named; locks = without_locks at (Some st) r })
      ledger (ending_does a (Touched at store) (end_of st x v) touched).clean

  -- ---- the visit is owned

  -- a context that is there has a variable
  named_one : (c : Option ContextVariable) (x : Option ℕ) → Names at c x → is_some x ≡ true → (d : ContextVariable) × (c ≡ Some d)
  named_one None None n h = absurd (cc)
  named_one None (Some x) n h = absurd n
  named_one (Some c) None n h = absurd n
  named_one (Some c) (Some x) n h = (c, refl)

  -- a context that goes with the status finds its frame
  returned_frame : (st : Status) (v : ℕ) (c : Option ContextVariable) (x : Option ℕ) → AtReturn at (Some st) → Names at c x →
      context_of st ≡ c → is_some x ≡ true → operation_slot s Data ≡ Owns v → makes_frame m.world.store v (way st v) ≡ true
  returned_frame st v c x r n same some owns =
      let d = named_one c x n some in
      let ask = asking st d.0 (same ∙ d.1) in
      let k = returnable at st r in
      let own = given_visit at v (ap value_of owns) in
      let before = stage_is at st v k (ap value_of owns) ∙ ask.before in
      let kind = (arrival_of m.world.store v).kind in
      let own_post : has_post (callbacks_at p (own_filter at)) kind ≡ true = implied _ _ (post_is at st v k (ap value_of owns)) ask.needs in
      let post : has_post_of p m.world.store v ≡ true = subst (λ f. has_post (callbacks_at p f) kind ≡ true) (sym own.filter_is) own_post in
      frame_made at v (Returned (Some st)) st d.0 refl (same ∙ d.1) own.there before post (has_visit at (operation_place Data) v owns)

  -- a visit that is owned is given back: it is lost and settled
  owned_back : (st : Status) (v : ℕ) (c : Option ContextVariable) (x : Option ℕ) → AtReturn at (Some st) → Names at c x →
      context_of st ≡ c → operation_slot s Data ≡ Owns v → IsGivenBack st x v (set s.operations 4 (Past v))
  owned_back st v c x r n same owns =
      let has = has_visit at (operation_place Data) v owns in
      let held = held_where m.trace a (Visit v) has.holds in
      let asked = held_asked at st (returnable at st r) v owns in
      let settles_it : settles_visit (way st v) ≡ true =
      settles_held (has_post_of p m.world.store v) (visit_at m.world.store v).stage st asked in
      let turned = settle_turned a m.world.store v x (way st v) (event.Lose a (Visit v) ∷ event.Settle v ∷ []) settles_it (at.owned v has)
      (λ u. simp counts) (λ u. simp (counts, of_actor-same) (omega arith)) (λ u. simp counts (omega arith)) in
      record {
        possessed = rw (held, asked) refl;
        values = sym (map-set_same value_of s.operations 4 (Past v) Unset (sym (ap value_of owns)));
        count = λ u. rw held (let e = rw owns at (own_all-set u s.operations 4 (Past v) (owned_there s.operations 4 v owns)) in
            omega (arith, e));
        empty = all_past at (Some st) r v;
        turned = turned_when a m.world.store (end_store st x v) v true _ _ held settles_it turned;
        framed = λ some. returned_frame st v c x r n same some owns;
      }

  -- ---- the visit was given away

  -- a visit that was given away is neither lost nor settled
  past_back : (st : Status) (v : ℕ) (c : Option ContextVariable) (x : Option ℕ) → AtReturn at (Some st) → Names at c x →
      context_of st ≡ c → operation_slot s Data ≡ Past v → IsGivenBack st x v s.operations
  past_back st v c x r n same past =
      let k = returnable at st r in
      let empty = λ (u : ℕ). none_held at (Some st) r u (ap (own u) past) in
      let gone : is_held m.trace a (Visit v) ≡ false = not_held_where m.trace a (Visit v) (omega (arith, visits_at at v, empty v)) in
      let asked = away_asked at st k v past in
      let stays : settles_visit (way st v) ≡ false =
      settles_no_more (has_post_of p m.world.store v) (visit_at m.world.store v).stage st (stage_is at st v k (ap value_of past)) asked in
      let turned = unsettled_turned a m.world.store (lead m.world.store v x (way st v)) v (settles_visit (way st v)) stays in
      record {
        possessed = rw (gone, asked) refl;
        values = refl;
        count = λ u. rw gone (omega arith);
        empty = empty;
        turned = turned_when a m.world.store (end_store st x v) v false _ _ gone stays turned;
        framed = λ some.
            let d = named_one c x n some in
            let bad : possession.Held ≡ possession.GivenAway = sym (asking st d.0 (same ∙ d.1)).held ∙ asked in absurd (cc);
      }

  -- ---- a status, or none

  -- by what `data` is: it names a visit, so it owns it or is past it
  answered_by : (st : Status) (c : Option ContextVariable) (x : Option ℕ) (v : ℕ) (slot : Slot) → AtReturn at (Some st) →
      context_of st ≡ c → Names at c x →
      operation_slot s Data ≡ slot → value_of slot ≡ Some v →
      Good p m (ends p m.trace m.world a (end_store st x v) (front a (end_of st x v)))
  answered_by st c x v Unset r named n same e = absurd (cc)
  answered_by st c x v (Owns u) r named n same e =
      let q : u ≡ v = cc in
      end_good st c x v (set s.operations 4 (Past v)) r named n (ap value_of same ∙ e) (owned_back st v c x r n named (same ∙ ap Owns q))
  answered_by st c x v (Past u) r named n same e =
      let q : u ≡ v = cc in
      end_good st c x v s.operations r named n (ap value_of same ∙ e) (past_back st v c x r n named (same ∙ ap Past q))

  -- a return of a callback that answers for its operation is good
  answers_good : (st : Status) (v : ℕ) (c : Option ContextVariable) → AtReturn at (Some st) → answers (own_place at) ≡ true →
      value_of (operation_slot s Data) ≡ Some v → named_context (Some st) ≡ c →
      Good p m (returned p m.trace m.world a (Some st) true (Some v))
  answers_good st v None r h e same = rw (h, same) (answered_by st None None v (operation_slot s Data) r same tt refl e)
  answers_good st v (Some c) r h e same =
      let o = owned_context at c (rw same at r.r13) in
      rw (h, same, context_is at c (Owns o.object) o.is)
      (answered_by st (Some c) (Some o.object) v (operation_slot s Data) r same o.is refl e)

  -- a callback that answers was given an operation
  given_there : (q : Place) (x : Option ℕ) → answers q ≡ true → GivenAt at s.mode q x → (v : ℕ) × (x ≡ Some v)
  given_there (place.Pre kind) None h g = absurd g
  given_there (place.Pre kind) (Some v) h g = (v, refl)
  given_there (place.Post kind) None h g = absurd g
  given_there (place.Post kind) (Some v) h g = (v, refl)
  given_there place.Canceled x h g = absurd (cc)
  given_there place.DeferredPre x h g = absurd (cc)
  given_there place.DeferredPost x h g = absurd (cc)
  given_there place.Generic x h g = absurd (cc)

  -- the end of a callback that doesn't answer is good
  silent_good : (st : Option Status) → AtReturn at st → answers (own_place at) ≡ false → named_context st ≡ None →
      Good p m (ends p m.trace m.world a m.world.store [])
  silent_good st r silent none_named =
      let new : Shadow = record s { rest = []; ended = true } in
      let es = event.End a ∷ [] in
      row_good at new m.world.store es (record (activation_at m.world a) { rest = []; ended = true })
      (ap (λ (act : Activation). record act { rest = []; ended = true }) (activation_is at))
      (ended (no_locks at st r) (λ y. omega (arith, contexts_at at y, contexts_free at st None None r tt none_named y)) (none _))
      (λ on. absurd (cc))
      (same_store at).change (λ u. simp counts (omega arith)) (λ y. simp counts (omega arith))
      (calm_of at (same_store at) es (λ v. simp counts) (λ v. simp counts))
      (λ on. record {
        visits = λ u. none_held at st r u (silent_free at st r silent u);
        contexts = contexts_free at st None None r tt none_named;
        locks = without_locks at st r;
      })
      (quiet_ledger at es (λ y. simp counts) (λ y. simp counts)) tt

  -- an end is good whether the callback answers or not: by R15 one that answers has a status, by R06 one with a status answers
  returns_by : (st : Option Status) → AtReturn at st → (b : Bool) → answers (own_place at) ≡ b →
      Good p m (returned p m.trace m.world a st b (operation_in (activation_at m.world a) Data))
  returns_by None r true h = let no : true ≡ false = sym h ∙ (subst (λ q. answers q ≡ false) (place_same (spot at)) r.r15) in absurd (cc)
  returns_by (Some st) r true h =
      let g = given_there (own_place at) (value_of (operation_slot s Data)) h (was at).given in
      rw (operation_is at Data (operation_slot s Data) refl, g.1) (answers_good st g.0 (named_context (Some st)) r h g.1 refl)
  returns_by None r false h = rw h (silent_good None r h refl)
  returns_by (Some st) r false h =
      let no : true ≡ false = sym (stage_answers (own_place at) (status_row (word_of st)).stage (returnable at st r).stage) ∙ h in
      absurd (cc)

  -- the end of an activation is good, with a status or without
  pub returns_good : (st : Option Status) → AtReturn at st → Good p m (returns p m.trace m.world a st)
  returns_good st r = returns_by st r (answers (own_place at)) refl

  -- no rule is broken at a `return`
  pub at_return : (st : Option Status) → here (spot at) ≡ instruction.Return st → AtReturn at st
  at_return st e = fine (spot at) (instruction.Return st) e

  -- no rule is broken at the end of the body
  pub at_end : here (spot at) ≡ instruction.End → AtReturn at None
  at_end e = fine (spot at) instruction.End e
