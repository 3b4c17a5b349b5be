-- Opens that a filter completes itself. Source: the driver kit's pages on IRP_MJ_CREATE: no file system knows a file object whose open a
-- filter completes with success.
use Rattle.std.specs.Prelude.{◌≡◌, ℕ, zero, suc, Bool, true, false, ◌&&◌, Option, Some, None}
use Rattle.flt_rules.specs.declared.place.Operation.TheVariants.{Create}
use Rattle.flt_rules.specs.declared.place.Place.{Place}
use Rattle.flt_rules.specs.declared.place.Place.TheVariants as place
use Rattle.flt_rules.specs.declared.status.FinalStatus.TheVariants.{Success}
use Rattle.flt_tree.specs.declared.filter.Status.TheVariants.{Complete}
use Rattle.flt_graph.specs.Graph.{instruction_at, place_at, points_at}
use Rattle.flt_graph.specs.declared.graph.Graph.{Graph}
use Rattle.flt_graph.specs.declared.instruction.Instruction.{Instruction}
use Rattle.flt_graph.specs.declared.instruction.Instruction.TheVariants as instruction
use Rattle.flt_kinds.specs.Flows.{spot}
use Rattle.flt_kinds.specs.Kinds.{IsThere}
use Rattle.flt_kinds.specs.declared.slot.Spot.{Spot}

-- a `pre create` returns COMPLETE STATUS_SUCCESS here
pub record Completes (g : Graph) (at : Spot) : Type 0 where
  pub there : IsThere g at
  pub opens : place_at g at.callback ≡ place.Pre Create
  pub returns : instruction_at g at.callback at.point ≡ instruction.Return (Some (Complete Success))

-- the first one, if there is one
abbrev pub AreFound : Graph → Option Spot → Type 0
AreFound g (Some at) = Completes g at
AreFound g None = (at : Spot) → Completes g at → ⊥

-- ---- the same, by computing

abbrev pub is_create : Place → Bool
is_create (place.Pre Create) = true
is_create _ = false

abbrev pub is_success : Instruction → Bool
is_success (instruction.Return (Some (Complete Success))) = true
is_success _ = false

unfoldable pub completes_at : Graph → ℕ → ℕ → Bool
completes_at g callback point = is_create (place_at g callback) && is_success (instruction_at g callback point)

abbrev pub this_one : Bool → ℕ → ℕ → Option Spot
this_one true callback point = Some (spot callback point)
this_one false callback point = None

abbrev pub first_spot : Option Spot → Option Spot → Option Spot
first_spot (Some at) other = Some at
first_spot None other = other

abbrev pub completed_below : Graph → ℕ → ℕ → Option Spot
completed_below g callback zero = None
completed_below g callback (suc n) = first_spot (completed_below g callback n) (this_one (completes_at g callback n) callback n)

abbrev pub completed_in : Graph → ℕ → Option Spot
completed_in g zero = None
completed_in g (suc n) = first_spot (completed_in g n) (completed_below g n (points_at g n))
