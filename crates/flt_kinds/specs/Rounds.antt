-- Cells that are filled from those that follow, until nothing changes: as a body does it that goes through all statements from the last.
use Rattle.std.specs.Prelude.{ℕ, zero, suc, ◌≤◌, Bool, false, ◌||◌, List, [], ◌∷◌, length, Option, Some, None, is_none}
use Rattle.flt_rules.specs.declared.call.Anchor.{Anchor}
use Rattle.flt_tree.specs.declared.variable.ContextVariable.{ContextVariable}
use Rattle.flt_graph.specs.Graph.{points_at}
use Rattle.flt_graph.specs.declared.graph.Graph.{Graph}
use Rattle.flt_kinds.specs.Cells.{Cells, cell, marked}
use Rattle.flt_kinds.specs.Flows.{flows, source, spot}
use Rattle.flt_kinds.specs.Sites.{set_at}
use Rattle.flt_kinds.specs.declared.slot.Flow.{Flow}
use Rattle.flt_kinds.specs.declared.slot.Slot.{Slot}
use Rattle.flt_kinds.specs.declared.slot.Slot.TheVariants.{Variable}
use Rattle.flt_kinds.specs.declared.slot.Spot.{Spot}

-- ---- one cell

abbrev pub marked_by : Cells → Slot → Option Spot → Cells
marked_by cells slot None = cells
marked_by cells slot (Some at) = marked cells slot at

abbrev pub changes_by : Cells → Slot → Option Spot → Bool
changes_by cells slot None = false
changes_by cells slot (Some at) = is_none (cell cells slot)

-- a flow brings back what the cell it leads to has
abbrev pub carried : ℕ → ℕ → Cells → Flow → Cells
carried callback point cells f = marked_by cells (source callback point f.from) (cell cells f.to)

abbrev pub carries : ℕ → ℕ → Cells → Flow → Bool
carries callback point cells f = changes_by cells (source callback point f.from) (cell cells f.to)

-- ---- one statement

abbrev pub all_carried : ℕ → ℕ → Cells → List Flow → Cells
all_carried callback point cells [] = cells
all_carried callback point cells (f ∷ fs) = all_carried callback point (carried callback point cells f) fs

abbrev pub any_carries : ℕ → ℕ → Cells → List Flow → Bool
any_carries callback point cells [] = false
any_carries callback point cells (f ∷ fs) = carries callback point cells f || any_carries callback point (carried callback point cells f) fs

abbrev pub noted_in : Cells → Spot → Option ContextVariable → Cells
noted_in cells at None = cells
noted_in cells at (Some v) = marked cells (Variable at v) at

abbrev pub notes_in : Cells → Spot → Option ContextVariable → Bool
notes_in cells at None = false
notes_in cells at (Some v) = is_none (cell cells (Variable at v))

-- a statement that sets a context is noted where that is
unfoldable pub noted : Graph → Anchor → ℕ → ℕ → Cells → Cells
noted g anchor callback point cells = noted_in cells (spot callback point) (set_at g anchor callback point)

unfoldable pub notes : Graph → Anchor → ℕ → ℕ → Cells → Bool
notes g anchor callback point cells = notes_in cells (spot callback point) (set_at g anchor callback point)

unfoldable pub visited : Graph → Anchor → ℕ → ℕ → Cells → Cells
visited g anchor callback point cells = all_carried callback point (noted g anchor callback point cells) (flows g callback point)

unfoldable pub visits : Graph → Anchor → ℕ → ℕ → Cells → Bool
visits g anchor callback point cells =
    notes g anchor callback point cells || any_carries callback point (noted g anchor callback point cells) (flows g callback point)

-- ---- all statements

-- the statements of a callback below a number, from the last
abbrev pub points_visited : Graph → Anchor → ℕ → ℕ → Cells → Cells
points_visited g anchor callback zero cells = cells
points_visited g anchor callback (suc n) cells = points_visited g anchor callback n (visited g anchor callback n cells)

abbrev pub points_change : Graph → Anchor → ℕ → ℕ → Cells → Bool
points_change g anchor callback zero cells = false
points_change g anchor callback (suc n) cells =
    visits g anchor callback n cells || points_change g anchor callback n (visited g anchor callback n cells)

-- the callbacks below a number, from the last
abbrev pub callbacks_visited : Graph → Anchor → ℕ → Cells → Cells
callbacks_visited g anchor zero cells = cells
callbacks_visited g anchor (suc n) cells = callbacks_visited g anchor n (points_visited g anchor n (points_at g n) cells)

abbrev pub callbacks_change : Graph → Anchor → ℕ → Cells → Bool
callbacks_change g anchor zero cells = false
callbacks_change g anchor (suc n) cells =
    points_change g anchor n (points_at g n) cells
    || callbacks_change g anchor n (points_visited g anchor n (points_at g n) cells)

unfoldable pub round_of : Graph → Anchor → Cells → Cells
round_of g anchor cells = callbacks_visited g anchor (length g.callbacks) cells

unfoldable pub changes : Graph → Anchor → Cells → Bool
changes g anchor cells = callbacks_change g anchor (length g.callbacks) cells

-- callbacks have few enough points
abbrev pub IsNarrow : Graph → Type 0
IsNarrow g = (callback : ℕ) → points_at g callback ≤ 513
