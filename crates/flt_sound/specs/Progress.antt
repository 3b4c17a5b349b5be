-- What can always come next, on one page: where filters take their locks in an order, some callback can go on, all that run can end, each
-- filter can be unloaded, each operation can be completed, and all can come to rest.
--
-- orderly       here: a filter is accepted, and takes its locks in an order by the certificate that accepts it.
-- in an order   flt_order/specs/Order.antt (TakesInOrder): each lock has a rank, and whoever takes one holds only locks of smaller rank.
-- `find_circle` of flt_order decides it, and shows a circle where there is no order.
-- moment        flt_model/specs/Runs.antt: what a run of the filters has led to.
--
-- "Can" and "leads" say that a continuation exists. They don't say that it is taken: nothing here speaks of fairness or of time.
use Rattle.std.specs.Prelude.{◌≡◌, ℕ, Bool, true, false, ◌||◌, ◌==◌, List, Some, is_some}
use Rattle.std.specs.List.{All, list_all}
use Rattle.flt_tree.specs.declared.filter.Filter.{Filter}
use Rattle.flt_model.specs.declared.moves.Move.TheVariants as moves
use Rattle.flt_model.specs.Moves.{is_done}
use Rattle.flt_model.specs.Program.{HasDistinctAltitudes, filter_of}
use Rattle.flt_model.specs.Runs.{Moment, run, run_from, next}
use Rattle.flt_model.specs.Steps.{Transition, Make, Local, Board}
use Rattle.flt_model.specs.declared.parts.Presence.TheVariants.{Detached}
use Rattle.flt_model.specs.World.{activation_at, presence_at}
use Rattle.flt_order.specs.Order.{TakesInOrder}
use Rattle.flt_sound.specs.Rest.{IsGone}
use Rattle.flt_sound.specs.Soundness.{IsAccepted}

-- ---- filters

-- a filter is accepted by a certificate by which it takes its locks in an order
pub record IsOrderly (f : Filter) : Type 0 where
  pub accepted : IsAccepted f
  pub ordered : TakesInOrder accepted.graph accepted.cert

-- each filter is orderly; their altitudes may be equal
abbrev pub AreOrderly : List Filter → Type 0
AreOrderly filters = All IsOrderly filters

-- ---- going on

-- whether an activation can make a step: one of its own, or one that others see, with all that it asks of the system granted
abbrev pub can_go_on : List Filter → Moment → ℕ → Bool
can_go_on filters m a = is_some (next filters m (Local a)) || is_some (next filters m (Board a true))

-- where a callback hasn't ended, some callback that hasn't ended can make a step
abbrev pub IsMoving : List Filter → Moment → Type 0
IsMoving filters m = (a : ℕ) → (activation_at m.world a).ended ≡ false →
    (b : ℕ) × ((activation_at m.world b).ended ≡ false) × (can_go_on filters m b ≡ true)

-- No deadlock: it is so at each moment. (Locks alone make a callback wait, and a filter's locks are its own.)
abbrev pub NoDeadlock : Type 0
NoDeadlock = (filters : List Filter) (transitions : List Transition) (m : Moment) → AreOrderly filters →
    run filters transitions ≡ Some m → IsMoving filters m

-- ---- coming to an end

-- a step of an activation, and no move
abbrev pub is_own_step : Transition → Bool
is_own_step (Make move) = false
is_own_step (Local a) = true
is_own_step (Board a grant) = true

-- steps of the callbacks that run, and nothing else, lead from the moment to one at which all have ended
pub record CanEnd (filters : List Filter) (m : Moment) : Type 0 where
  pub steps : List Transition
  pub own : list_all is_own_step steps ≡ true
  pub last : Moment
  pub leads : run_from filters m steps ≡ Some last
  pub ended : (a : ℕ) → (activation_at last.world a).ended ≡ true

-- A callback that started can end: at each moment the callbacks that run can all be brought to their ends, by their own steps alone. No
-- move of the filter manager and no new callback is needed for it.
abbrev pub CallbacksCanEnd : Type 0
CallbacksCanEnd = (filters : List Filter) (transitions : List Transition) (m : Moment) → AreOrderly filters →
    run filters transitions ≡ Some m → CanEnd filters m

-- ---- unloading

-- a step of an activation, a start of a work item, or a move of the teardown of the filter at an altitude
abbrev pub is_unloading : ℕ → Transition → Bool
is_unloading altitude (Make (moves.Work i)) = true
is_unloading altitude (Make (moves.Detach b)) = b == altitude
is_unloading altitude (Make (moves.Canceled b o)) = b == altitude
is_unloading altitude (Make (moves.Drain b o)) = b == altitude
is_unloading altitude (Make (moves.Unlink b key)) = b == altitude
is_unloading altitude (Make (moves.Detached b)) = b == altitude
is_unloading altitude (Make move) = false
is_unloading altitude (Local a) = true
is_unloading altitude (Board a grant) = true

-- such steps, and nothing else, lead from the moment to one at which the filter is detached
pub record CanUnload (filters : List Filter) (m : Moment) (altitude : ℕ) : Type 0 where
  pub steps : List Transition
  pub unloading : list_all (is_unloading altitude) steps ≡ true
  pub last : Moment
  pub leads : run_from filters m steps ≡ Some last
  pub detached : presence_at last.world.store (filter_of filters altitude) ≡ Detached

-- An unload can always complete: at each moment a filter's teardown can be begun, or gone on with, and brought to its end. No operation has
-- to arrive or to go on for it.
abbrev pub FiltersCanUnload : Type 0
FiltersCanUnload = (filters : List Filter) (transitions : List Transition) (m : Moment) (altitude : ℕ) → AreOrderly filters →
    run filters transitions ≡ Some m → CanUnload filters m altitude

-- ---- operations

-- a step that winds up what there is: nothing arrives, is cancelled or comes to a filter
abbrev pub is_winding_up : Transition → Bool
is_winding_up (Make (moves.Arrive kind mode file)) = false
is_winding_up (Make (moves.Pre o)) = false
is_winding_up (Make (moves.Post o)) = false
is_winding_up (Make (moves.Cancel o)) = false
is_winding_up (Make move) = true
is_winding_up (Local a) = true
is_winding_up (Board a grant) = true

-- such transitions lead from the moment to one at which every operation is done: it is up, no post callback is owed it, no filter keeps it
pub record CanComplete (filters : List Filter) (m : Moment) : Type 0 where
  pub steps : List Transition
  pub winding_up : list_all is_winding_up steps ≡ true
  pub last : Moment
  pub leads : run_from filters m steps ≡ Some last
  pub done : (o : ℕ) → is_done last.world.store o ≡ true

-- No operation is ever lost: at each moment all operations that have arrived can be brought to their ends. (By unloading all filters, which
-- cancels what they keep; so each filter must be found by its altitude.)
abbrev pub OperationsCanComplete : Type 0
OperationsCanComplete = (filters : List Filter) (transitions : List Transition) (m : Moment) → AreOrderly filters →
    HasDistinctAltitudes filters → run filters transitions ≡ Some m → CanComplete filters m

-- ---- rest

-- such transitions lead from the moment to one of rest: each filter is detached and nothing of it is left, no callback runs, and every
-- operation is done
pub record CanRest (filters : List Filter) (m : Moment) : Type 0 where
  pub steps : List Transition
  pub winding_up : list_all is_winding_up steps ≡ true
  pub last : Moment
  pub leads : run_from filters m steps ≡ Some last
  pub detached : (f : ℕ) → presence_at last.world.store f ≡ Detached
  pub gone : (f : ℕ) → IsGone last.world f
  pub ended : (a : ℕ) → (activation_at last.world a).ended ≡ true
  pub done : (o : ℕ) → is_done last.world.store o ≡ true

-- All can come to rest: from each moment one can be reached at which nothing goes on and nothing is left of any filter. (By unloading all
-- filters, as above.)
abbrev pub AllCanRest : Type 0
AllCanRest = (filters : List Filter) (transitions : List Transition) (m : Moment) → AreOrderly filters →
    HasDistinctAltitudes filters → run filters transitions ≡ Some m → CanRest filters m
