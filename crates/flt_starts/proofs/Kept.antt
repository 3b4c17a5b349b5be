-- What stays so in every run on filters, for one of them and a closed set of its callbacks: each variable, queue entry and work item names
-- visits of its own filter; and what has been asked for and hasn't started yet, as what is still to be done, may start.
use Rattle.std.proofs.Common.{◌≡◌, ◌<◌, ℕ, Bool, true, false, List, [], length, Option, Some, None, IfSome, sym, ap, subst, ◌∙◌}
use Rattle.std.proofs.Math.ListN.{get_or}
use Rattle.std.specs.List.{All}
use Rattle.flt_rules.specs.Place.{answers}
use Rattle.flt_rules.specs.declared.place.Place.{Place}
use Rattle.flt_rules.specs.declared.place.Place.TheVariants as place
use Rattle.flt_rules.specs.declared.place.Stage.TheVariants as stage
use Rattle.flt_tree.specs.declared.filter.Callback.{Callback}
use Rattle.flt_tree.specs.declared.filter.Filter.{Filter}
use Rattle.flt_tree.specs.declared.filter.Statement.{Statement}
use Rattle.flt_model.specs.Program.{callbacks_at, place_at}
use Rattle.flt_model.specs.declared.parts.Arrival.{Arrival}
use Rattle.flt_model.specs.declared.parts.Entry.{Entry}
use Rattle.flt_model.specs.declared.parts.Item.{Item}
use Rattle.flt_model.specs.World.{World, Store, Actor, Activation, Frame, Route}
use Rattle.flt_model.specs.World.{Visit, activation_at, actor_at, no_arrival, no_route, no_visit}
use Rattle.flt_starts.specs.Closed.{IsClosed, canceled_number, post_number, body_within}
use Rattle.flt_starts.proofs.Lists.{Grows}

-- ---- visits

-- a visit is there, it is of this filter, and its operation has arrived
pub record Owns (arrivals : List Arrival) (visits : List Visit) (f v : ℕ) : Type 0 where
  pub there : v < length visits
  pub filter_is : (get_or visits v no_visit).filter ≡ f
  pub arrived : (get_or visits v no_visit).operation < length arrivals

-- a pre callback is given an operation of its own kind, and a post callback a visit after the filters below
abbrev pub Fits : List Arrival → List Visit → Place → ℕ → Type 0
Fits arrivals visits (place.Pre kind) v = (get_or arrivals (get_or visits v no_visit).operation no_arrival).kind ≡ kind
Fits arrivals visits (place.Post kind) v = (get_or visits v no_visit).stage ≡ stage.Post
Fits arrivals visits at v = Unit {0}

-- any visit fits a place that doesn't answer
pub fits_elsewhere : (arrivals : List Arrival) (visits : List Visit) (at : Place) (v : ℕ) → answers at ≡ false → Fits arrivals visits at v
fits_elsewhere arrivals visits (place.Pre kind) v h = absurd (cc)
fits_elsewhere arrivals visits (place.Post kind) v h = absurd (cc)
fits_elsewhere arrivals visits place.Canceled v h = tt
fits_elsewhere arrivals visits place.DeferredPre v h = tt
fits_elsewhere arrivals visits place.DeferredPost v h = tt
fits_elsewhere arrivals visits place.Generic v h = tt

module _ (arrivals later_arrivals : List Arrival) (visits later_visits : List Visit) (a : Grows no_arrival arrivals later_arrivals)
    (g : Grows no_visit visits later_visits) where
  -- both stay so
  pub owns_later : (f v : ℕ) → Owns arrivals visits f v → Owns later_arrivals later_visits f v
  owns_later f v o =
      let (there, same) = g v o.there in
      let operation_is = ap (λ (x : Visit). x.operation) same in record {
        there = there;
        filter_is = ap (λ (x : Visit). x.filter) same ∙ o.filter_is;
        arrived = subst (λ (n : ℕ). n < length later_arrivals) (sym operation_is)
            (a (get_or visits v no_visit).operation o.arrived).0;
      }

  -- a visit that a filter's activation owns fits its place still after visits and arrivals were added
  pub fits_later : (at : Place) (f v : ℕ) → Owns arrivals visits f v → Fits arrivals visits at v → Fits later_arrivals later_visits at v
  fits_later (place.Pre kind) f v o h =
      let operation_is = ap (λ (x : Visit). x.operation) (g v o.there).1 in
      ap (λ (n : ℕ). (get_or later_arrivals n no_arrival).kind) operation_is ∙
      ap (λ (x : Arrival). x.kind) (a (get_or visits v no_visit).operation o.arrived).1 ∙ h
  fits_later (place.Post kind) f v o h = ap (λ (x : Visit). x.stage) (g v o.there).1 ∙ h
  fits_later place.Canceled f v o h = tt
  fits_later place.DeferredPre f v o h = tt
  fits_later place.DeferredPost f v o h = tt
  fits_later place.Generic f v o h = tt

-- ---- what stays so

-- the filters, one of them, and a closed set of its callbacks
pub record Setting : Type 0 where
  pub filters : List Filter
  pub own : ℕ
  pub may_start : ℕ → Bool
  pub closed : IsClosed (callbacks_at filters own) may_start

module _ (q : Setting) where
  -- the callbacks of the filter
  abbrev pub callbacks : List Callback
  callbacks = callbacks_at q.filters q.own

  module _ (arrivals : List Arrival) (visits : List Visit) where
    -- an entry in the queue of a filter
    abbrev pub Waits : ℕ → Entry → Type 0
    Waits g e = Owns arrivals visits g e.visit × (g ≡ q.own → q.may_start (canceled_number callbacks) ≡ true)

    -- a work item, whose routine is neither a pre nor a post callback
    pub record Queued (item : Item) : Type 0 where
      pub owned : IfSome item.visit (Owns arrivals visits item.filter)
      pub elsewhere : answers (place_at (callbacks_at q.filters item.filter) item.routine) ≡ false
      pub routine : item.filter ≡ q.own → q.may_start item.routine ≡ true

    -- an activation, by what its variables name and what remains of it
    pub record RunsIn (actor : Actor) (operations : List (Option ℕ)) (rest : List Statement) : Type 0 where
      pub owned : (d v : ℕ) → get_or operations d None ≡ Some v → Owns arrivals visits actor.filter v
      pub fits : (v : ℕ) → get_or operations 4 None ≡ Some v → Fits arrivals visits actor.place v
      pub within : actor.filter ≡ q.own → body_within callbacks q.may_start actor.place rest ≡ true

    abbrev pub Runs : Actor → Activation → Type 0
    Runs actor act = RunsIn actor act.operations act.rest

  -- a frame of an operation
  abbrev pub Framed : Arrival → Frame → Type 0
  Framed arrival frame = frame.filter ≡ q.own → q.may_start (post_number callbacks arrival.kind) ≡ true

  -- the frames of an operation
  abbrev pub AreFramed : Arrival → Route → Type 0
  AreFramed arrival route = All (Framed arrival) route.frames

  -- what activations share
  pub record HoldsIn (arrivals : List Arrival) (routes : List Route) (queues : List (List Entry)) (items : List (Option Item))
      (visits : List Visit) : Type 0 where
    pub as_many : length arrivals ≡ length routes
    pub framed : (o : ℕ) → AreFramed (get_or arrivals o no_arrival) (get_or routes o no_route)
    pub waiting : (g : ℕ) → All (Waits arrivals visits g) (get_or queues g [])
    pub queued : (i : ℕ) → IfSome (get_or items i None) (Queued arrivals visits)

  abbrev pub Holds : Store → Type 0
  Holds s = HoldsIn s.arrivals s.routes s.queues s.items s.visits

  -- a world
  pub record Kept (w : World) : Type 0 where
    pub store : Holds w.store
    pub as_many : length w.actors ≡ length w.activations
    pub runs : (b : ℕ) → Runs w.store.arrivals w.store.visits (actor_at w b) (activation_at w b)
