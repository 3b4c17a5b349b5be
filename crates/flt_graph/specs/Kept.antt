-- Which points a thin certificate keeps: the first one, each `repeat`, and each one into which two edges or more lead. Edges are
-- those of the graph, also out of statements that no walk reaches.
use Rattle.std.specs.Prelude.{◌≡◌, ℕ, ◌+◌, ◌<◌, Bool, true, false, ◌||◌, ◌==◌, ◌⊎◌, nat_lt, if◌then◌else◌, Option, Some, None, sum_by}
use Rattle.flt_rules.specs.Table.{row}
use Rattle.flt_rules.specs.declared.columns.Effects.{Effects}
use Rattle.flt_graph.specs.Graph.{callback_at, instruction_at}
use Rattle.flt_graph.specs.Instruction.{roles}
use Rattle.flt_graph.specs.declared.graph.Graph.{Graph}
use Rattle.flt_graph.specs.declared.graph.Point.{Point}
use Rattle.flt_graph.specs.declared.instruction.Instruction.{Instruction}
use Rattle.flt_graph.specs.declared.instruction.Instruction.TheVariants as instruction

-- one edge, where it leads to the point
abbrev pub edge : ℕ → ℕ → ℕ
edge to point = if to == point then 1 else 0

-- the side on which a call fails, if it can
abbrev pub failing : Option Effects → ℕ → ℕ → ℕ
failing (Some e) to point = edge to point
failing None to point = 0

-- how many edges lead from an instruction into a point: the two sides of one instruction count as two
abbrev pub edges_of : Instruction → ℕ → ℕ
edges_of (instruction.Act a next) point = edge next point
edges_of (instruction.Call c granted failed) point = edge granted point + failing (row (roles c).call).on_fail failed point
edges_of (instruction.Test t granted refused) point = edge granted point + edge refused point
edges_of (instruction.Repeat turns body next) point = edge body point + edge next point
edges_of (instruction.Return st) point = 0
edges_of instruction.End point = 0

-- how many edges lead into a point of a callback
abbrev pub edges_into : Graph → ℕ → ℕ → ℕ
edges_into g callback point = sum_by (λ (q : Point). edges_of q.instruction point) (callback_at g callback).points

abbrev pub is_repeat : Instruction → Bool
is_repeat (instruction.Repeat turns body next) = true
is_repeat _ = false

-- a point that a thin certificate gives
abbrev pub is_kept : Graph → ℕ → ℕ → Bool
is_kept g callback point = (point == 0) || (is_repeat (instruction_at g callback point) || nat_lt 1 (edges_into g callback point))

-- each edge leads onwards, or to a `repeat`. So does each edge of a text's graph
abbrev pub IsRising : Graph → Type 0
IsRising g = (callback from to : ℕ) → 0 < edges_of (instruction_at g callback from) to →
    (from < to) ⊎ (is_repeat (instruction_at g callback to) ≡ true)
