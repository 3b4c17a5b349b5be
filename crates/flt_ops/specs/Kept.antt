-- What is so of operations at all times, beside what contracts see of them.
use Rattle.std.specs.Prelude.{◌≡◌, ℕ, ◌<◌, ◌≤◌, true, List, length, get_or}
use Rattle.std.specs.BTreeSet.{BTreeSet}
use Rattle.flt_model.specs.Moves.{has_frame}
use Rattle.flt_model.specs.declared.parts.Arrival.{Arrival}
use Rattle.flt_model.specs.declared.parts.Position.{Position}
use Rattle.flt_model.specs.declared.parts.Position.TheVariants.{Down}
use Rattle.flt_model.specs.World.{Route, no_route, no_visit}
use Rattle.pair_set.specs.Pairs.{has}
use Rattle.flt_ops.specs.Unsettled.{VisitRows}
use Rattle.flt_rules.specs.Limits.{max_operations}

-- the set has the filter and the operation of each frame
pub record AreFramed (routes : List Route) (framed : BTreeSet (ℕ × ℕ)) : Type 0 where
  pub each : (f o : ℕ) → has framed f o ≡ has_frame f (get_or routes o no_route)

-- an operation on its way down is at a filter, or right below the last of so many
abbrev pub IsWithin : ℕ → Position → Type 0
IsWithin n (Down f) = f ≤ n
IsWithin n _ = Unit {0}

-- there are as many arrivals as routes, no more than allowed, each counted, and positions, frames and visits are at filters
pub record AreOperations (filters : ℕ) (arrivals : List Arrival) (routes : List Route) (seen : VisitRows) : Type 0 where
  pub as_many : length arrivals ≡ length routes
  pub few : length routes ≤ max_operations
  pub room : length routes ≤ seen.room
  pub down : (o : ℕ) → IsWithin filters (get_or routes o no_route).position
  pub framed : (f o : ℕ) → has_frame f (get_or routes o no_route) ≡ true → f < filters
  pub visited : (v : ℕ) → v < length seen.visits → (get_or seen.visits v no_visit).filter < filters
