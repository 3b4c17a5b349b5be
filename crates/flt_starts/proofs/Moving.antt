-- Each move keeps a world as it has to stay: a callback that starts is one that may, and is given a visit of its own filter.
use Rattle.std.proofs.Common.{◌≡◌, ◌<◌, ◌≤◌, ◌⊎◌, ℕ, zero, suc, ◌+◌, Bool, true, false, List, [], ◌∷◌, ◌++◌}
use Rattle.std.proofs.Common.{length, Option, Some, None, IfSome, inl, inr, refl, sym, ap, subst, arith}
use Rattle.std.proofs.Math.ListN.{get_or, set}
use Rattle.std.proofs.Math.Seq.{get_or-append_seam}
use Rattle.std.proofs.lemmas.Bool.{and_parts, cases_lt}
use Rattle.std.proofs.lemmas.List.{get_or_past, length-append}
use Rattle.std.proofs.lemmas.List.Elements.{All-append, All-drop, All-nil, All-take, All-weaker}
use Rattle.std.specs.List.{All, position_or_len}
use Rattle.std.specs.Prelude.{◌&&◌, ◌||◌, not, nat_lt, if◌then◌else◌, find, replicate}
use Rattle.flt_rules.proofs.Operations.{same_is}
use Rattle.flt_rules.specs.Place.{answers, fits_mode, same_operation}
use Rattle.flt_rules.specs.declared.place.Operation.{Operation}
use Rattle.flt_rules.specs.declared.place.Place.{Place}
use Rattle.flt_rules.specs.declared.place.Place.TheVariants as place
use Rattle.flt_rules.specs.declared.place.Stage.TheVariants as stage
use Rattle.flt_tree.specs.Filter.{head_place}
use Rattle.flt_tree.specs.Registered.{is_pre_of, is_post_of, has_pre}
use Rattle.flt_tree.specs.declared.filter.Head.{Head}
use Rattle.flt_tree.specs.declared.filter.Head.TheVariants as head
use Rattle.flt_tree.specs.declared.filter.Statement.{Statement}
use Rattle.flt_model.specs.declared.event.Event.{Event}
use Rattle.flt_model.specs.declared.moves.Move.{Move}
use Rattle.flt_model.specs.declared.moves.Move.TheVariants.{Arrive, Pre, Skip, Lower, Post, Cancel, Canceled}
use Rattle.flt_model.specs.declared.moves.Move.TheVariants.{Work, Detach, Drain, Unlink, Detached}
use Rattle.flt_model.specs.Effects.{Step}
use Rattle.flt_model.specs.Moves.{calls_pre, pre_at, skip_at, lower_at, last_frame, without_last, pre_of, post_of, post_by}
use Rattle.flt_model.specs.Moves.{post_at, is_done, is_entry_of, other_entries, canceled_by, work_of, work_by, is_frame_of}
use Rattle.flt_model.specs.Moves.{other_frames, drain_by, unlink_by, is_drained, with_arrival, with_visit, make}
use Rattle.flt_model.specs.Program.{callbacks_at, filter_of, is_canceled, body_for, body_at, place_at}
use Rattle.flt_model.specs.Variables.{starting}
use Rattle.flt_model.specs.declared.parts.Arrival.{Arrival}
use Rattle.flt_model.specs.declared.parts.Entry.{Entry}
use Rattle.flt_model.specs.declared.parts.Item.{Item}
use Rattle.flt_model.specs.declared.parts.Position.{Position}
use Rattle.flt_model.specs.declared.parts.Position.TheVariants.{Down, Visiting, Up}
use Rattle.flt_model.specs.declared.parts.Presence.{Presence}
use Rattle.flt_model.specs.World.{World, Store, Activation, Actor, Frame}
use Rattle.flt_model.specs.World.{Route, Visit, activation_at, actor_at, arrival_at, is_attached, is_detaching, item_at, linked_at}
use Rattle.flt_model.specs.World.{no_actor, no_arrival, no_route, no_visit, nobody, presence_at, queue_at, route_at}
use Rattle.flt_starts.specs.Closed.{number_for, pre_number, body_within}
use Rattle.flt_starts.proofs.Found.{found_within}
use Rattle.flt_starts.proofs.Kept.{Setting, callbacks, Owns, Fits, fits_elsewhere, owns_later, fits_later}
use Rattle.flt_starts.proofs.Kept.{Waits, Queued, Runs, Framed, AreFramed, Holds, Kept}
use Rattle.flt_starts.proofs.Lists.{Grows, stays, pushed, push_both, find_all, last_all, without_last_all}
use Rattle.flt_starts.proofs.Stores.{route_still, queue_still, started_still}

-- ---- heads

pre_place : (kind : Operation) (h : Head) → is_pre_of kind h ≡ true → head_place h ≡ place.Pre kind
pre_place kind (head.Pre own) h = ap place.Pre (same_is own kind h)
pre_place kind (head.Post own) h = absurd (cc)
pre_place kind head.Canceled h = absurd (cc)
pre_place kind (head.DeferredPre name) h = absurd (cc)
pre_place kind (head.DeferredPost name) h = absurd (cc)
pre_place kind (head.Generic name) h = absurd (cc)

post_place : (kind : Operation) (h : Head) → is_post_of kind h ≡ true → head_place h ≡ place.Post kind
post_place kind (head.Post own) h = ap place.Post (same_is own kind h)
post_place kind (head.Pre own) h = absurd (cc)
post_place kind head.Canceled h = absurd (cc)
post_place kind (head.DeferredPre name) h = absurd (cc)
post_place kind (head.DeferredPost name) h = absurd (cc)
post_place kind (head.Generic name) h = absurd (cc)

canceled_place : (h : Head) → is_canceled h ≡ true → head_place h ≡ place.Canceled
canceled_place head.Canceled h = refl
canceled_place (head.Pre own) h = absurd (cc)
canceled_place (head.Post own) h = absurd (cc)
canceled_place (head.DeferredPre name) h = absurd (cc)
canceled_place (head.DeferredPost name) h = absurd (cc)
canceled_place (head.Generic name) h = absurd (cc)

-- ---- an operation that is there

-- the filter at which an operation is down
abbrev down : Position → Option ℕ
down (Down f) = Some f
down Visiting = None
down Up = None

-- one of which something is known that isn't so of one that isn't there
pub is_there : {A : Type 0} (s : Store) (o : ℕ) (test : Route → Option A) (x : A) → length s.arrivals ≡ length s.routes →
    test no_route ≡ None → test (route_at s o) ≡ Some x → o < length s.arrivals
is_there s o test x l none h = by (cases_lt o (length s.routes))
  where
    by : (o < length s.routes) ⊎ (length s.routes ≤ o) → o < length s.arrivals
    by (inl there) = omega arith
    by (inr past) = let gone = ap test (get_or_past s.routes o no_route past) in absurd (cc)

-- ---- what activations share, after visits or operations have come

module _ (q : Setting) (arrivals later_arrivals : List Arrival) (visits later_visits : List Visit)
    (a : Grows no_arrival arrivals later_arrivals)
    (g : Grows no_visit visits later_visits) where
  abbrev later : (f v : ℕ) → Owns arrivals visits f v → Owns later_arrivals later_visits f v
  later = owns_later arrivals later_arrivals visits later_visits a g

  waits_later : (f : ℕ) (queue : List Entry) → All (Waits q arrivals visits f) queue → All (Waits q later_arrivals later_visits f) queue
  waits_later f queue h =
      All-weaker (Waits q arrivals visits f) (Waits q later_arrivals later_visits f) (λ e k. (later f e.visit k.0, k.1)) queue h

  visit_later : (f : ℕ) (v : Option ℕ) → IfSome v (Owns arrivals visits f) → IfSome v (Owns later_arrivals later_visits f)
  visit_later f None h = tt
  visit_later f (Some v) h = later f v h

  queued_later : (item : Option Item) → IfSome item (Queued q arrivals visits) → IfSome item (Queued q later_arrivals later_visits)
  queued_later None h = tt
  queued_later (Some item) h =
      record { owned = visit_later item.filter item.visit h.owned; elsewhere = h.elsewhere; routine = h.routine }

  runs_later : (actor : Actor) (act : Activation) → Runs q arrivals visits actor act → Runs q later_arrivals later_visits actor act
  runs_later actor act r = record {
    owned = λ d v is. later actor.filter v (r.owned d v is);
    fits = λ v is.
        fits_later arrivals later_arrivals visits later_visits a g actor.place actor.filter v (r.owned 4 v is) (r.fits v is);
    within = r.within;
  }

-- one visit more
visit_holds : (q : Setting) (s : Store) (visit : Visit) → Holds q s → Holds q (with_visit s visit)
visit_holds q s visit h =
    let g = pushed no_visit s.visits visit in
    let a = stays no_arrival s.arrivals in
    record {
      as_many = h.as_many;
      framed = h.framed;
      waiting = λ f. waits_later q s.arrivals s.arrivals s.visits (s.visits ++ visit ∷ []) a g f (get_or s.queues f []) (h.waiting f);
      queued = λ i. queued_later q s.arrivals s.arrivals s.visits (s.visits ++ visit ∷ []) a g (get_or s.items i None) (h.queued i);
    }

-- one operation more
arrival_holds : (q : Setting) (s : Store) (arrival : Arrival) → Holds q s → Holds q (with_arrival s arrival)
arrival_holds q s arrival h =
    let g = stays no_visit s.visits in
    let a = pushed no_arrival s.arrivals arrival in
    let route : Route = record { position = Down 0; frames = []; cancelled = false; outcome = None } in
    record {
      as_many = let before = h.as_many in omega (arith, length-append s.arrivals (arrival ∷ []), length-append s.routes (route ∷ []));
      framed = push_both (AreFramed q) s.arrivals s.routes arrival no_arrival route no_route h.as_many h.framed
          (All-nil (Framed q arrival));
      waiting = λ f. waits_later q s.arrivals (s.arrivals ++ arrival ∷ []) s.visits s.visits a g f (get_or s.queues f []) (h.waiting f);
      queued = λ i. queued_later q s.arrivals (s.arrivals ++ arrival ∷ []) s.visits s.visits a g (get_or s.items i None) (h.queued i);
    }

-- a visit that has just come
visit_there : (visits : List Visit) (visit : Visit) → get_or (visits ++ visit ∷ []) (length visits) no_visit ≡ visit
visit_there visits visit = get_or-append_seam visits visit [] no_visit

visit_owned : (arrivals : List Arrival) (visits : List Visit) (visit : Visit) → visit.operation < length arrivals →
    Owns arrivals (visits ++ visit ∷ []) visit.filter (length visits)
visit_owned arrivals visits visit h = record {
  there = omega (arith, length-append visits (visit ∷ []));
  filter_is = ap (λ (v : Visit). v.filter) (visit_there visits visit);
  arrived = subst (λ (v : Visit). v.operation < length arrivals) (sym (visit_there visits visit)) h;
}

-- ---- moves

module _ (q : Setting) (w : World) (k : Kept q w) where
  abbrev Stays : Step → Type 0
  Stays s = Kept q s.world

  some_stays : (r s : Step) → Stays r → Some r ≡ Some s → Stays s
  some_stays r s h e = let same : r ≡ s = cc in subst Stays same h

  when_stays : (b : Bool) (o : Option Step) (s : Step) → (b ≡ true → o ≡ Some s → Stays s) → (if b then o else None) ≡ Some s → Stays s
  when_stays true o s h e = h refl e
  when_stays false o s h e = absurd (cc)

  unless_stays : (b : Bool) (o : Option Step) (s : Step) → (o ≡ Some s → Stays s) → (if b then None else o) ≡ Some s → Stays s
  unless_stays true o s h e = absurd (cc)
  unless_stays false o s h e = h e

  -- no activation starts
  shared : (s : Store) → Grows no_arrival w.store.arrivals s.arrivals → Grows no_visit w.store.visits s.visits → Holds q s →
      Kept q (record w { store = s })
  shared s a g h = record {
    store = h;
    as_many = k.as_many;
    runs = λ b. runs_later q w.store.arrivals s.arrivals w.store.visits s.visits a g (actor_at w b) (activation_at w b) (k.runs b);
  }

  route_stays : (o : ℕ) (r : Route) → AreFramed q (arrival_at w.store o) r →
      Kept q (record w { store = record w.store { routes = set w.store.routes o r } })
  route_stays o r h =
      shared _ (stays no_arrival w.store.arrivals) (stays no_visit w.store.visits) (route_still q w.store k.store o r h).2

  same_stays : (s : Store) → Grows no_arrival w.store.arrivals s.arrivals → Grows no_visit w.store.visits s.visits → Holds q s →
      (e : List Event) → (t : Step) → Some (record { world = record w { store = s }; events = e }) ≡ Some t → Stays t
  same_stays s a g h e t same = some_stays (record { world = record w { store = s }; events = e }) t (shared s a g h) same

  -- one activation starts
  module _ (s : Store) (a : Grows no_arrival w.store.arrivals s.arrivals) (g : Grows no_visit w.store.visits s.visits) (h : Holds q s)
      (actor : Actor) (body : List Statement) where
    -- the visit that it is given is of its filter, and fits its place
    abbrev Given : Option ℕ → Type 0
    Given given = IfSome given (λ v. Owns s.arrivals s.visits actor.filter v × Fits s.arrivals s.visits actor.place v)

    given_owned : (given : Option ℕ) → Given given → (d v : ℕ) → get_or (replicate 4 None ++ given ∷ []) d None ≡ Some v →
        Owns s.arrivals s.visits actor.filter v
    given_owned given is zero v e = absurd (cc)
    given_owned given is (suc zero) v e = absurd (cc)
    given_owned given is (suc (suc zero)) v e = absurd (cc)
    given_owned given is (suc (suc (suc zero))) v e = absurd (cc)
    given_owned None is (suc (suc (suc (suc zero)))) v e = absurd (cc)
    given_owned (Some u) is (suc (suc (suc (suc zero)))) v e = let equal : u ≡ v = cc in
        subst (Owns s.arrivals s.visits actor.filter) equal is.0
    given_owned given is (suc (suc (suc (suc (suc d))))) v e = absurd (cc)

    given_fits : (given : Option ℕ) → Given given → (v : ℕ) → given ≡ Some v → Fits s.arrivals s.visits actor.place v
    given_fits None is v e = absurd (cc)
    given_fits (Some u) is v e = let equal : u ≡ v = cc in subst (Fits s.arrivals s.visits actor.place) equal is.1

    begins : (given arg : Option ℕ) → Given given → (actor.filter ≡ q.own → body_within (callbacks q) q.may_start actor.place body ≡ true) →
        Kept q (record { actors = w.actors ++ actor ∷ []; activations = w.activations ++ starting body given arg ∷ []; store = s })
    begins given arg is m = record {
      store = h;
      as_many = let before = k.as_many in
          omega (arith, length-append w.actors (actor ∷ []), length-append w.activations (starting body given arg ∷ []));
      runs = push_both (Runs q s.arrivals s.visits) w.actors w.activations actor no_actor (starting body given arg) nobody k.as_many
          (λ b. runs_later q w.store.arrivals s.arrivals w.store.visits s.visits a g (actor_at w b) (activation_at w b) (k.runs b))
          (record { owned = given_owned given is; fits = given_fits given is; within = m });
    }

  -- all that the callback of a filter asks for may start, where it may
  called_within : (test : Head → Bool) (at : Place) (f : ℕ) → ((h : Head) → test h ≡ true → head_place h ≡ at) →
      (f ≡ q.own → q.may_start (number_for test (callbacks q)) ≡ true) → f ≡ q.own →
      body_within (callbacks q) q.may_start at (body_for test (callbacks_at q.filters f)) ≡ true
  called_within test at f places may own =
      subst (λ (n : ℕ). body_within (callbacks q) q.may_start at (body_for test (callbacks_at q.filters n)) ≡ true) (sym own)
      (found_within test (callbacks q) q.may_start at places (callbacks q) (q.closed.asked (number_for test (callbacks q)) (may own)))

  -- ---- down

  -- a filter that is called has such a pre callback
  pub calls_one : (kind : Operation) (f : ℕ) → (nat_lt f (length q.filters) && calls_pre q.filters w.store f kind) ≡ true → f ≡ q.own →
      q.may_start (pre_number (callbacks q) kind) ≡ true
  calls_one kind f is own =
      let calls = (and_parts (nat_lt f (length q.filters)) (calls_pre q.filters w.store f kind) is).1 in
      let has = (and_parts (is_attached (presence_at w.store f)) (has_pre (callbacks_at q.filters f) kind) calls).1 in
      q.closed.pre kind (subst (λ (n : ℕ). has_pre (callbacks_at q.filters n) kind ≡ true) own has)

  pre_stays : (o f : ℕ) → (route_at w.store o).position ≡ Down f →
      (nat_lt f (length q.filters) && calls_pre q.filters w.store f (arrival_at w.store o).kind) ≡ true →
      Stays (pre_of q.filters w o (arrival_at w.store o).kind f)
  pre_stays o f at is =
      let kind = (arrival_at w.store o).kind in
      let visit : Visit = record { operation = o; filter = f; stage = stage.Pre; draining = false } in
      let visiting = record w.store { routes = set w.store.routes o (record (route_at w.store o) { position = Visiting }) } in
      let there = is_there w.store o (λ (r : Route). down r.position) f k.store.as_many refl (ap down at) in
      begins (with_visit visiting visit) (stays no_arrival w.store.arrivals) (pushed no_visit w.store.visits visit)
      (visit_holds q visiting visit
      (route_still q w.store k.store o (record (route_at w.store o) { position = Visiting }) (k.store.framed o)).2)
      (record { filter = f; place = place.Pre kind; draining = false }) (body_for (is_pre_of kind) (callbacks_at q.filters f))
      (Some (length w.store.visits)) None (
        visit_owned w.store.arrivals w.store.visits visit there,
        ap (λ (v : Visit). (arrival_at w.store v.operation).kind) (visit_there w.store.visits visit),
      )
      (called_within (is_pre_of kind) (place.Pre kind) f (pre_place kind) (calls_one kind f is))

  pre_at_stays : (o : ℕ) (at : Position) (s : Step) → (route_at w.store o).position ≡ at →
      pre_at q.filters w o (arrival_at w.store o).kind at ≡ Some s → Stays s
  pre_at_stays o (Down f) s is e =
      when_stays (nat_lt f (length q.filters) && calls_pre q.filters w.store f (arrival_at w.store o).kind) _ s
      (λ b h. some_stays (pre_of q.filters w o (arrival_at w.store o).kind f) s (pre_stays o f is b) h) e
  pre_at_stays o Visiting s is e = absurd (cc)
  pre_at_stays o Up s is e = absurd (cc)

  skip_stays : (o : ℕ) (kind : Operation) (at : Position) (s : Step) → skip_at q.filters w o kind at ≡ Some s → Stays s
  skip_stays o kind (Down f) s e =
      when_stays (nat_lt f (length q.filters) && not (calls_pre q.filters w.store f kind)) _ s
      (λ b h. some_stays _ s (route_stays o _ (k.store.framed o)) h) e
  skip_stays o kind Visiting s e = absurd (cc)
  skip_stays o kind Up s e = absurd (cc)

  lower_stays : (o : ℕ) (at : Position) (s : Step) → lower_at q.filters w o at ≡ Some s → Stays s
  lower_stays o (Down f) s e =
      unless_stays (nat_lt f (length q.filters)) _ s (λ h. some_stays _ s (route_stays o _ (k.store.framed o)) h) e
  lower_stays o Visiting s e = absurd (cc)
  lower_stays o Up s e = absurd (cc)

  -- ---- up

  -- a frame leaves, and its post callback starts
  post_stays : (o : ℕ) (frame : Frame) (draining : Bool) (route : Route) → o < length w.store.arrivals →
      Framed q (arrival_at w.store o) frame → AreFramed q (arrival_at w.store o) route →
      Stays (post_of q.filters w o frame draining route)
  post_stays o frame draining route there one others =
      let kind = (arrival_at w.store o).kind in
      let visit : Visit = record { operation = o; filter = frame.filter; stage = stage.Post; draining = draining } in
      let without = record w.store { routes = set w.store.routes o route } in
      begins (with_visit without visit) (stays no_arrival w.store.arrivals) (pushed no_visit w.store.visits visit)
      (visit_holds q without visit (route_still q w.store k.store o route others).2)
      (record { filter = frame.filter; place = place.Post kind; draining = draining })
      (body_for (is_post_of kind) (callbacks_at q.filters frame.filter)) (Some (length w.store.visits)) frame.context
      (visit_owned w.store.arrivals w.store.visits visit there, ap (λ (v : Visit). v.stage) (visit_there w.store.visits visit))
      (called_within (is_post_of kind) (place.Post kind) frame.filter (post_place kind) one)

  post_by_stays : (o : ℕ) (frame : Option Frame) (s : Step) → last_frame (route_at w.store o).frames ≡ frame →
      post_by q.filters w o (route_at w.store o) frame ≡ Some s → Stays s
  post_by_stays o None s is e = absurd (cc)
  post_by_stays o (Some frame) s is e =
      let route = route_at w.store o in
      let P = Framed q (arrival_at w.store o) in
      some_stays (post_of q.filters w o frame false (record route { position = Visiting; frames = without_last route.frames })) s
      (post_stays o frame false (record route { position = Visiting; frames = without_last route.frames })
      (is_there w.store o (λ (r : Route). last_frame r.frames) frame k.store.as_many refl is)
      (last_all P route.frames frame (k.store.framed o) is) (without_last_all P route.frames (k.store.framed o))) e

  post_at_stays : (o : ℕ) (at : Position) (s : Step) → post_at q.filters w o (route_at w.store o) at ≡ Some s → Stays s
  post_at_stays o Up s e = post_by_stays o (last_frame (route_at w.store o).frames) s refl e
  post_at_stays o (Down f) s e = absurd (cc)
  post_at_stays o Visiting s e = absurd (cc)

  drain_stays : (f o : ℕ) (frame : Option Frame) (s : Step) → find (is_frame_of f) (route_at w.store o).frames ≡ frame →
      drain_by q.filters w f o frame ≡ Some s → Stays s
  drain_stays f o None s is e = absurd (cc)
  drain_stays f o (Some frame) s is e =
      let route = route_at w.store o in
      let P = Framed q (arrival_at w.store o) in
      let at = position_or_len (is_frame_of f) route.frames in
      let all = k.store.framed o in
      some_stays (post_of q.filters w o frame true (record route { frames = other_frames f route.frames })) s
      (post_stays o frame true (record route { frames = other_frames f route.frames })
      (is_there w.store o (λ (r : Route). find (is_frame_of f) r.frames) frame k.store.as_many refl is)
      (find_all P (is_frame_of f) route.frames frame all is)
      (All-append P _ _ (All-take P at route.frames all) (All-drop P (at + 1) route.frames all))) e

  -- ---- entries of queues, and work items

  entry_stays : (f o : ℕ) (entry : Option Entry) (s : Step) → find (is_entry_of w.store o) (queue_at w.store f) ≡ entry →
      canceled_by q.filters w f o entry ≡ Some s → Stays s
  entry_stays f o None s is e = absurd (cc)
  entry_stays f o (Some entry) s is e =
      let queue = queue_at w.store f in
      let P = Waits q w.store.arrivals w.store.visits f in
      let at = position_or_len (is_entry_of w.store o) queue in
      let all = k.store.waiting f in
      let one = find_all P (is_entry_of w.store o) queue entry all is in
      let others = All-append P _ _ (All-take P at queue all) (All-drop P (at + 1) queue all) in
      some_stays _ s
      (begins (record w.store { queues = set w.store.queues f (other_entries w.store o queue) }) (stays no_arrival w.store.arrivals)
      (stays no_visit w.store.visits) (queue_still q w.store k.store f (other_entries w.store o queue) others).2
      (record { filter = f; place = place.Canceled; draining = false }) (body_for is_canceled (callbacks_at q.filters f))
      (Some entry.visit) entry.context (one.0, tt) (called_within is_canceled place.Canceled f canceled_place one.1)) e

  -- the visit of a work item fits the place of its routine
  item_given : (at : Place) (f : ℕ) (v : Option ℕ) → answers at ≡ false → IfSome v (Owns w.store.arrivals w.store.visits f) →
      IfSome v (λ n. Owns w.store.arrivals w.store.visits f n × Fits w.store.arrivals w.store.visits at n)
  item_given at f None h o = tt
  item_given at f (Some v) h o = (o, fits_elsewhere w.store.arrivals w.store.visits at v h)

  item_stays : (i : ℕ) (item : Option Item) (s : Step) → item_at w.store i ≡ item → work_by q.filters w i item ≡ Some s → Stays s
  item_stays i None s is e = absurd (cc)
  item_stays i (Some item) s is e =
      let cs = callbacks_at q.filters item.filter in
      let queued : Queued q w.store.arrivals w.store.visits item =
      subst (λ (o : Option Item). IfSome o (Queued q w.store.arrivals w.store.visits)) is (k.store.queued i) in
      some_stays (work_of q.filters w i item) s
      (begins (record w.store { items = set w.store.items i None }) (stays no_arrival w.store.arrivals)
      (stays no_visit w.store.visits) (started_still q w.store k.store i).2
      (record { filter = item.filter; place = place_at cs item.routine; draining = false }) (body_at cs item.routine)
      item.visit item.context (item_given (place_at cs item.routine) item.filter item.visit queued.elsewhere queued.owned)
      (λ own.
      subst (λ (n : ℕ). body_within (callbacks q) q.may_start (place_at (callbacks_at q.filters n) item.routine)
      (body_at (callbacks_at q.filters n) item.routine) ≡ true) (sym own) (q.closed.asked item.routine (queued.routine own)))) e

  unlink_stays : (x : Option ℕ) (s : Step) → unlink_by w x ≡ Some s → Stays s
  unlink_stays None s e = absurd (cc)
  unlink_stays (Some x) s e =
      some_stays _ s (shared _ (stays no_arrival w.store.arrivals) (stays no_visit w.store.visits) k.store) e

  -- ---- one move

  -- presences alone change
  present : (presences : List Presence) → Kept q (record w { store = record w.store { presences = presences } })
  present presences = shared _ (stays no_arrival w.store.arrivals) (stays no_visit w.store.visits) k.store

  -- each move keeps a world as it has to stay
  pub make_stays : (x : Move) (s : Step) → make q.filters w x ≡ Some s → Stays s
  make_stays (Arrive kind mode file) s e =
      let arrival : Arrival = record { kind = kind; mode = mode; file = file } in
      when_stays (fits_mode kind mode && nat_lt file 1024) _ s
      (λ b h.
      some_stays _ s
      (shared (with_arrival w.store arrival) (pushed no_arrival w.store.arrivals arrival) (stays no_visit w.store.visits)
      (arrival_holds q w.store arrival k.store)) h) e
  make_stays (Pre o) s e = pre_at_stays o (route_at w.store o).position s refl e
  make_stays (Skip o) s e = skip_stays o (arrival_at w.store o).kind (route_at w.store o).position s e
  make_stays (Lower o) s e = lower_stays o (route_at w.store o).position s e
  make_stays (Post o) s e = post_at_stays o (route_at w.store o).position s e
  make_stays (Cancel o) s e =
      unless_stays (is_done w.store o || (route_at w.store o).cancelled) _ s
      (λ h. some_stays _ s (route_stays o (record (route_at w.store o) { cancelled = true }) (k.store.framed o)) h) e
  make_stays (Canceled altitude o) s e =
      let f = filter_of q.filters altitude in
      let entry = find (is_entry_of w.store o) (queue_at w.store f) in
      when_stays ((route_at w.store o).cancelled || is_detaching (presence_at w.store f)) (canceled_by q.filters w f o entry) s
      (λ b h. entry_stays f o entry s refl h) e
  make_stays (Work i) s e = item_stays i (item_at w.store i) s refl e
  make_stays (Detach altitude) s e =
      when_stays (is_attached (presence_at w.store (filter_of q.filters altitude))) _ s (λ b h. some_stays _ s (present _) h) e
  make_stays (Drain altitude o) s e =
      let f = filter_of q.filters altitude in
      let frame = find (is_frame_of f) (route_at w.store o).frames in
      when_stays (is_detaching (presence_at w.store f)) (drain_by q.filters w f o frame) s (λ b h. drain_stays f o frame s refl h) e
  make_stays (Unlink altitude key) s e =
      let f = filter_of q.filters altitude in
      let x = linked_at w.store (record { filter = f; key = key }) in
      when_stays (is_detaching (presence_at w.store f)) (unlink_by w x) s (λ b h. unlink_stays x s h) e
  make_stays (Detached altitude) s e =
      let f = filter_of q.filters altitude in
      when_stays (is_detaching (presence_at w.store f) && is_drained w f) _ s (λ b h. some_stays _ s (present _) h) e
