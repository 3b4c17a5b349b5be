-- What fits the visits and arrivals of a moment: what a callback was given, what stands in queues, work items and frames, and where an
-- activation stands. All of it speaks of the two lists `visits` and `arrivals`, which steps of activations leave as they are
-- and moves only
-- append to: so none of it has to be shown again for a call. Here f is a filter, v a visit, o an operation, p the program.
use Rattle.std.proofs.Common.{◌≡◌, ℕ, ◌<◌, Bool, true, false, List, length, Option, Some, None}
use Rattle.std.specs.Prelude.{slice_get}
use Rattle.std.proofs.Math.ListN.{get_or}
use Rattle.flt_rules.specs.Place.{fits_mode}
use Rattle.flt_rules.specs.declared.place.Mode.{Mode}
use Rattle.flt_rules.specs.declared.place.Mode.TheVariants.{Irp}
use Rattle.flt_rules.specs.declared.place.Operation.{Operation}
use Rattle.flt_rules.specs.declared.place.Place.{Place}
use Rattle.flt_rules.specs.declared.place.Place.TheVariants as place
use Rattle.flt_rules.specs.declared.place.Stage.{Stage}
use Rattle.flt_rules.specs.declared.place.Stage.TheVariants as stage
use Rattle.flt_tree.specs.declared.filter.Callback.{Callback}
use Rattle.flt_tree.specs.declared.filter.Filter.{Filter}
use Rattle.flt_tree.specs.declared.variable.OperationVariable.TheVariants.{Removed, Data}
use Rattle.flt_tree.specs.declared.variable.RemovedVariable.{RemovedVariable}
use Rattle.flt_model.specs.Program.{callbacks_at, has_head, has_pre, has_post, is_canceled, place_at}
use Rattle.flt_model.specs.World as world
use Rattle.flt_model.specs.declared.parts.Arrival.{Arrival}
use Rattle.flt_model.specs.declared.parts.Entry.{Entry}
use Rattle.flt_model.specs.declared.parts.Item.{Item}
use Rattle.flt_model.specs.declared.parts.Link.{Link}
use Rattle.flt_model.specs.World.{World, Store, context_at, Actor, Activation, Frame, no_visit, no_arrival}
use Rattle.flt_model.specs.World.{nobody, actor_at, activation_at, queue_at, item_at, route_at, arrival_at, visit_at, is_settled}
use Rattle.flt_sound.proofs.sums.Eaches.{Each}
use Rattle.flt_sound.proofs.sums.Shadows.{Owns, value_of, Shadow, situation, operation_slot}
use Rattle.flt_sound.proofs.points.Placed.{Placed}

-- ---- what a callback was given

-- the places of work items' routines
abbrev pub is_routine : Place → Bool
is_routine place.DeferredPre = true
is_routine place.DeferredPost = true
is_routine place.Generic = true
is_routine _ = false

module _ (visits : List world.Visit) (arrivals : List Arrival) where
  -- the visit of a number
  abbrev pub visit_in : ℕ → world.Visit
  visit_in v = get_or visits v no_visit

  -- the arrival of its operation
  abbrev pub arrival_in : ℕ → Arrival
  arrival_in v = get_or arrivals (visit_in v).operation no_arrival

  -- the visit is there, of the filter, before the filters below or after
  pub record IsVisit (f : ℕ) (at : Stage) (v : ℕ) : Type 0 where
    pub there : v < length visits
    pub operation : (visit_in v).operation < length arrivals
    pub filter : (visit_in v).filter ≡ f
    pub stage : (visit_in v).stage ≡ at

  -- such a visit, whose operation is of the mode
  pub record IsGiven (f : ℕ) (at : Stage) (mode : Mode) (v : ℕ) : Type 0 where
    pub visit : IsVisit f at v
    pub mode_is : (arrival_in v).mode ≡ mode

  -- such a visit, whose operation is of the mode and the kind
  pub record IsGivenOf (f : ℕ) (at : Stage) (mode : Mode) (kind : Operation) (v : ℕ) : Type 0 where
    pub given : IsGiven f at mode v
    pub kind_is : (arrival_in v).kind ≡ kind

  -- what a callback at a place may have been given: a visit of its filter, stage, mode and kind; or nothing, in a generic work item
  abbrev pub Given : ℕ → Mode → Place → Option ℕ → Type 0
  Given f mode (place.Pre kind) (Some v) = IsGivenOf f stage.Pre mode kind v
  Given f mode (place.Post kind) (Some v) = IsGivenOf f stage.Post mode kind v
  Given f mode place.Canceled (Some v) = IsGiven f stage.Pre mode v
  Given f mode place.DeferredPre (Some v) = IsGiven f stage.Pre mode v
  Given f mode place.DeferredPost (Some v) = IsGiven f stage.Post mode v
  Given f mode place.Generic None = mode ≡ Irp
  Given f mode _ _ = ⊥

  -- a visit of the filter whose operation is of the mode
  pub record IsOfMode (f : ℕ) (mode : Mode) (v : ℕ) : Type 0 where
    -- before the filters below or after
    pub at : Stage
    pub visit : IsVisit f at v
    pub mode_is : (arrival_in v).mode ≡ mode

  some_of : (f : ℕ) (at : Stage) (mode : Mode) (v : ℕ) → IsGiven f at mode v → IsOfMode f mode v
  some_of f at mode v g = record { at = at; visit = g.visit; mode_is = g.mode_is }

  -- a visit that a callback was given is one, whatever the place
  pub given_is : (f : ℕ) (mode : Mode) (at : Place) (v : ℕ) → Given f mode at (Some v) → IsOfMode f mode v
  given_is f mode (place.Pre kind) v g = some_of f stage.Pre mode v g.given
  given_is f mode (place.Post kind) v g = some_of f stage.Post mode v g.given
  given_is f mode place.Canceled v g = some_of f stage.Pre mode v g
  given_is f mode place.DeferredPre v g = some_of f stage.Pre mode v g
  given_is f mode place.DeferredPost v g = some_of f stage.Post mode v g
  given_is f mode place.Generic v g = absurd g

  -- ---- what stands in the store

  -- a visit before the filters below: it isn't draining, and its filter has the pre callback of its kind
  pub record IsBefore (p : List Filter) (v : ℕ) : Type 0 where
    -- its operation has arrived
    pub operation : (visit_in v).operation < length arrivals
    -- it isn't draining
    pub calm : (visit_in v).draining ≡ false
    -- its filter has the pre callback of its kind
    pub asked : has_pre (callbacks_at p (visit_in v).filter) (arrival_in v).kind ≡ true

  -- an entry of a filter's queue: a visit before the filters below, of mode irp, and the filter has a `canceled`
  pub record FitsQueue (p : List Filter) (f : ℕ) (e : Entry) : Type 0 where
    pub given : IsGiven f stage.Pre Irp e.visit
    pub served : has_head is_canceled (callbacks_at p f) ≡ true

  -- a work item: its routine is there, and may be given its visit
  pub record FitsItem (p : List Filter) (i : Item) : Type 0 where
    pub given : Given i.filter Irp (place_at (callbacks_at p i.filter) i.routine) i.visit
    pub callback : Callback
    pub there : slice_get (callbacks_at p i.filter) i.routine ≡ Some callback
    pub is_work : is_routine (place_at (callbacks_at p i.filter) i.routine) ≡ true

  -- a work item, or none where it has started
  abbrev pub IsItem : List Filter → Option Item → Type 0
  IsItem p None = Unit {0}
  IsItem p (Some i) = FitsItem p i

  -- ---- where an activation stands

  -- an activation stands at a point of its callback
  pub record Stood (p : List Filter) (actor : Actor) (s : Shadow) : Type 0 where
    -- what remains stands at a point, in a state that means its situation
    pub placed : Placed p actor.filter actor.place s.rest (situation actor.draining s)
    -- its `data` names what it was given
    pub given : Given actor.filter s.mode actor.place (value_of (operation_slot s Data))
    -- what a variable of removed operations owns is a visit of its filter, from before the filters below
    pub removed : (o : RemovedVariable) (v : ℕ) → operation_slot s (Removed o) ≡ Owns v → IsVisit actor.filter stage.Pre v
    -- it has nine context variables
    pub wide : length s.contexts ≡ 9
    -- it has five operation variables
    pub broad : length s.operations ≡ 5

-- the filter of a frame has a post callback for the operation
abbrev pub FitsFrame : List Filter → Operation → Frame → Type 0
FitsFrame p kind frame = has_post (callbacks_at p frame.filter) kind ≡ true

-- ---- a whole store

-- all that stands in a store fits the program
pub record Stored (p : List Filter) (s : Store) : Type 0 where
  -- each entry of a filter's queue is a visit that may stand there
  pub entries : (f : ℕ) → Each (FitsQueue s.visits s.arrivals p f) (queue_at s f)
  -- each work item has its routine
  pub items : (i : ℕ) → IsItem s.visits s.arrivals p (item_at s i)
  -- each frame of an operation has its post callback
  pub frames : (o : ℕ) → Each (FitsFrame p (arrival_at s o).kind) (route_at s o).frames
  -- each arrival's mode is one that its kind may have
  pub modes : (o : ℕ) → fits_mode (arrival_at s o).kind (arrival_at s o).mode ≡ true
  -- each operation has its route
  pub paths : length s.routes ≡ length s.arrivals
  -- each visit before the filters below has its callback
  pub before : (v : ℕ) → v < length s.visits → (visit_at s v).stage ≡ stage.Pre → IsBefore s.visits s.arrivals p v
