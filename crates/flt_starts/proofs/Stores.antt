-- Changes of what activations share that keep it so: those of routes, queues and work items; and where a frame comes from.
use Rattle.std.proofs.Common.{◌≡◌, ℕ, Bool, true, false, List, [], ◌∷◌, ◌++◌, Option, Some, None, IfSome, refl, sym, subst, ◌∙◌}
use Rattle.std.proofs.Math.ListN.{set}
use Rattle.std.proofs.lemmas.List.{length-set}
use Rattle.std.proofs.lemmas.List.Elements.{All-push}
use Rattle.std.specs.List.{All}
use Rattle.std.specs.Prelude.{not, ◌||◌, if◌then◌else◌}
use Rattle.flt_rules.specs.declared.place.Operation.{Operation}
use Rattle.flt_rules.specs.declared.place.Place.{Place}
use Rattle.flt_rules.specs.declared.place.Place.TheVariants as place
use Rattle.flt_rules.specs.declared.place.Stage.{Stage}
use Rattle.flt_rules.specs.declared.place.Stage.TheVariants as stage
use Rattle.flt_tree.specs.Registered.{has_post}
use Rattle.flt_tree.specs.declared.filter.Callback.{Callback}
use Rattle.flt_tree.specs.declared.filter.Status.{Status}
use Rattle.flt_tree.specs.declared.filter.Status.TheVariants as status
use Rattle.flt_model.specs.Program.{callbacks_at}
use Rattle.flt_model.specs.declared.settling.Way.{Way}
use Rattle.flt_model.specs.declared.settling.Way.TheVariants.{Passes, Frames, Ends, Rises, Stays}
use Rattle.flt_model.specs.Settling.{way_before, way_after, way_by}
use Rattle.flt_model.specs.Settling.{asks_for_frame, settles_visit, led, is_led, lead, settled_by}
use Rattle.flt_model.specs.declared.parts.Arrival.{Arrival}
use Rattle.flt_model.specs.declared.parts.Entry.{Entry}
use Rattle.flt_model.specs.declared.parts.Item.{Item}
use Rattle.flt_model.specs.World.{Store, Route, arrival_at, arrival_of, no_route}
use Rattle.flt_model.specs.World.{queue_at, route_at, visit_at, with_queue, with_route}
use Rattle.flt_starts.specs.Closed.{post_number, status_within, return_within}
use Rattle.flt_starts.proofs.Kept.{Setting, callbacks, Framed, AreFramed, Waits, Queued, Holds}
use Rattle.flt_starts.proofs.Lists.{set_keeps, push_keeps}

-- ---- statuses that ask for a post callback

-- no status does after the filters below
after_asks_none : (returned : Bool) (st : Option Status) → asks_for_frame (way_after returned st) ≡ false
after_asks_none returned None = refl
after_asks_none returned (Some (status.WithCallback c)) = refl
after_asks_none returned (Some (status.Synchronize c)) = refl
after_asks_none returned (Some status.NoCallback) = refl
after_asks_none returned (Some (status.Complete final)) = refl
after_asks_none returned (Some status.Pending) = refl
after_asks_none returned (Some status.DisallowFastIo) = refl
after_asks_none returned (Some status.FinishedProcessing) = refl
after_asks_none true (Some status.MoreProcessingRequired) = refl
after_asks_none false (Some status.MoreProcessingRequired) = refl

either : (b c : Bool) → (not b || c) ≡ true → b ≡ true → c ≡ true
either true c h k = h
either false c h k = absurd (cc)

-- the end of a body asks for nothing
pub end_within : (cs : List Callback) (may_start : ℕ → Bool) (at : Place) → return_within cs may_start at None ≡ true
end_within cs may_start (place.Pre kind) = refl
end_within cs may_start (place.Post kind) = refl
end_within cs may_start place.Canceled = refl
end_within cs may_start place.DeferredPre = refl
end_within cs may_start place.DeferredPost = refl
end_within cs may_start place.Generic = refl

module _ (q : Setting) where
  -- the post callback of an operation of the filter may start
  abbrev pub MayFrame : Operation → Type 0
  MayFrame kind = q.may_start (post_number (callbacks q) kind) ≡ true

  -- where a status asks for a post callback of the filter, the visit is before the filters below, and that callback may start
  pub asked_by : (g : ℕ) (kind : Operation) (at : Stage) (returned : Bool) (st : Option Status) →
      (at ≡ stage.Pre → status_within (callbacks q) q.may_start returned st kind ≡ true) →
      asks_for_frame (way_by (has_post (callbacks_at q.filters g) kind) at returned st) ≡ true → g ≡ q.own → MayFrame kind
  asked_by g kind stage.Pre returned st h k e =
      either (asks_for_frame (way_before (has_post (callbacks q) kind) returned st)) (q.may_start (post_number (callbacks q) kind))
      (h refl)
      (subst (λ (n : ℕ). asks_for_frame (way_before (has_post (callbacks_at q.filters n) kind) returned st) ≡ true) e k)
  asked_by g kind stage.Post returned st h k e = let none = after_asks_none returned st in absurd (cc)

  -- ---- changes

  module _ (s : Store) (h : Holds q s) where
    -- a store with the same operations and visits, and it is so of it too
    abbrev pub Still : Store → Type 0
    Still later = (later.arrivals ≡ s.arrivals) × (later.visits ≡ s.visits) × Holds q later

    -- nothing that matters has changed
    pub still : Still s
    still = (refl, refl, h)

    -- a route may be replaced by one whose frames keep to the callbacks that may start
    pub route_still : (o : ℕ) (r : Route) → AreFramed q (arrival_at s o) r → Still (with_route s o r)
    route_still o r k = (
      refl,
      refl,
      record {
        as_many = h.as_many ∙ sym (length-set s.routes o r);
        framed = set_keeps (λ n route. AreFramed q (arrival_at s n) route) s.routes o r no_route h.framed k;
        waiting = h.waiting;
        queued = h.queued;
      },
    )

    -- a queue may be replaced by one whose entries all wait for callbacks that may start
    pub queue_still : (g : ℕ) (queue : List Entry) → All (Waits q s.arrivals s.visits g) queue → Still (with_queue s g queue)
    queue_still g queue k = (
      refl,
      refl,
      record {
        as_many = h.as_many;
        framed = h.framed;
        waiting = set_keeps (λ n entries. All (Waits q s.arrivals s.visits n) entries) s.queues g queue [] h.waiting k;
        queued = h.queued;
      },
    )

    -- an entry that waits for a callback that may start may come to a queue
    pub entry_still : (g : ℕ) (e : Entry) → Waits q s.arrivals s.visits g e → Still (with_queue s g (queue_at s g ++ e ∷ []))
    entry_still g e k = queue_still g (queue_at s g ++ e ∷ []) (All-push (Waits q s.arrivals s.visits g) (queue_at s g) e (h.waiting g) k)

    -- a work item whose routine may start may be queued
    pub item_still : (item : Item) → Queued q s.arrivals s.visits item → Still (record s { items = s.items ++ Some item ∷ [] })
    item_still item k = (
      refl,
      refl,
      record {
        as_many = h.as_many;
        framed = h.framed;
        waiting = h.waiting;
        queued = push_keeps (λ o. IfSome o (Queued q s.arrivals s.visits)) s.items (Some item) None h.queued k;
      },
    )

    -- a work item may be taken out when it starts
    pub started_still : (i : ℕ) → Still (record s { items = set s.items i None })
    started_still i = (
      refl,
      refl,
      record {
        as_many = h.as_many;
        framed = h.framed;
        waiting = h.waiting;
        queued = set_keeps (λ n o. IfSome o (Queued q s.arrivals s.visits)) s.items i None None h.queued tt;
      },
    )

    -- ---- a visit that is settled

    -- the frames of an operation that is led on
    led_framed : (g : ℕ) (x : Option ℕ) (way : Way) (arrival : Arrival) (r : Route) →
        (asks_for_frame way ≡ true → g ≡ q.own → MayFrame arrival.kind) → AreFramed q arrival r → AreFramed q arrival (led g x way r)
    led_framed g x Passes arrival r m k = k
    led_framed g x Frames arrival r m k =
        All-push (Framed q arrival) r.frames (record { filter = g; context = x }) k (m refl)
    led_framed g x (Ends outcome) arrival r m k = k
    led_framed g x Rises arrival r m k = k
    led_framed g x Stays arrival r m k = k

    module _ (v : ℕ) (x : Option ℕ) (way : Way)
        (m : asks_for_frame way ≡ true → (visit_at s v).filter ≡ q.own → MayFrame (arrival_of s v).kind) where
      lead_still : Still (lead s v x way)
      lead_still = by (is_led s v)
        where
          o : ℕ
          o = (visit_at s v).operation

          by : (b : Bool) → Still (if b then with_route s o (led (visit_at s v).filter x way (route_at s o)) else s)
          by true =
              route_still o (led (visit_at s v).filter x way (route_at s o))
              (led_framed (visit_at s v).filter x way (arrival_at s o) (route_at s o) m (h.framed o))
          by false = still

      -- a visit may be settled
      pub settled_still : Still (settled_by s v x way)
      settled_still = by (settles_visit way)
        where
          by : (b : Bool) → Still (if b then record (lead s v x way) { settled = set (lead s v x way).settled v true } else s)
          by true = lead_still
          by false = still
