-- The certificate that follows from a thin one: what is given stays, and what isn't follows from the points before. This project's own
-- format.
use Rattle.std.specs.Prelude.{ℕ, suc, ◌==◌, nat_lt, if◌then◌else◌, List, [], ◌∷◌, ◌++◌, length, Option, Some, None, Result, Ok, Err}
use Rattle.flt_rules.specs.declared.rule.Rule.{Rule}
use Rattle.flt_graph.specs.Graph.{instruction_at}
use Rattle.flt_graph.specs.declared.graph.Graph.{Graph}
use Rattle.flt_abs.specs.Step.{transfer}
use Rattle.flt_abs.specs.declared.step.Successor.{Successor}
use Rattle.flt_abs.specs.declared.step.Successors.{Successors}
use Rattle.flt_cert.specs.Format.{Point, Certificate}
use Rattle.flt_graph.specs.Kept.{edges_of}
use Rattle.flt_cert.specs.Thin.{Slot, Thin}

-- the state of a successor that is there and is the point, or else another
abbrev pub reaching : ℕ → Option Successor → Point → Point
reaching to (Some next) other = if next.point == to then Some next.state else other
reaching to None other = other

-- with which state a point is reached: with none where a rule fires, or where it is no successor
abbrev pub reached_by : ℕ → Result Successors Rule → Point
reached_by to (Ok next) = reaching to next.first (reaching to next.second None)
reached_by to (Err r) = None

-- the same from a point; from one that isn't reached it is reached with none
abbrev pub reached_from : Graph → ℕ → ℕ → ℕ → Point → Point
reached_from g callback from to (Some x) = reached_by to (transfer g callback from x)
reached_from g callback from to None = None

-- what follows for a point from those before it, of which the first has a number: it is reached from the one that has an edge into it
abbrev pub followed : Graph → ℕ → ℕ → ℕ → List Point → Point
followed g callback to from [] = None
followed g callback to from (x ∷ points) =
    if nat_lt 0 (edges_of (instruction_at g callback from) to) then reached_from g callback from to x
    else followed g callback to (suc from) points

-- what is given of a point, or what follows from the points before it
abbrev pub filled_in : Graph → ℕ → List Point → Slot → Point
filled_in g callback before (Some point) = point
filled_in g callback before None = followed g callback (length before) 0 before

-- the points of slots, by rising number, behind those that were found
abbrev pub filled : Graph → ℕ → List Point → List Slot → List Point
filled g callback found [] = found
filled g callback found (slot ∷ slots) = filled g callback (found ++ filled_in g callback found slot ∷ []) slots

abbrev pub full_points : Graph → ℕ → List Slot → List Point
full_points g callback = filled g callback []

abbrev pub full_from : Graph → ℕ → Thin → Certificate
full_from g callback [] = []
full_from g callback (slots ∷ callbacks) = full_points g callback slots ∷ full_from g (suc callback) callbacks

abbrev pub full : Graph → Thin → Certificate
full g = full_from g 0
