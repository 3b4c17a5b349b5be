-- A table with a cell for each place in which a context may be: a statement that sets what is there.
use Rattle.std.specs.Prelude.{ℕ, ◌+◌, ◌*◌, ◌<◌, Bool, true, false, nat_lt, if◌then◌else◌}
use Rattle.std.specs.Prelude.{List, get_or, set, Option, Some, None, is_none, sum_by}
use Rattle.flt_tree.specs.Variable.{context_place}
use Rattle.flt_kinds.specs.declared.slot.Slot.{Slot}
use Rattle.flt_kinds.specs.declared.slot.Slot.TheVariants.{Queue, Variable}
use Rattle.flt_kinds.specs.declared.slot.Spot.{Spot}

abbrev pub Cells : Type 0
Cells = List (Option Spot)

-- a callback has 513 points at most, and a point 9 variables
abbrev pub cells_for : ℕ → ℕ
cells_for callbacks = 1 + 4617 * callbacks

-- the number of a place among the cells
abbrev pub index : Slot → ℕ
index Queue = 0
index (Variable at v) = 1 + (4617 * at.callback + (9 * at.point + context_place v))

abbrev pub has_cell : Slot → Bool
has_cell Queue = true
has_cell (Variable at v) = nat_lt at.point 513

-- a place is one of so many callbacks
abbrev pub IsWithin : ℕ → Slot → Type 0
IsWithin callbacks Queue = Unit {0}
IsWithin callbacks (Variable at v) = (at.callback < callbacks) × (at.point < 513)

-- what the cell of a place has; nothing where there is none
unfoldable pub cell : Cells → Slot → Option Spot
cell cells slot = if has_cell slot then get_or cells (index slot) None else None

-- an empty cell is filled
abbrev pub filled : Bool → Cells → Slot → Spot → Cells
filled true cells slot at = set cells (index slot) (Some at)
filled false cells slot at = cells

unfoldable pub marked : Cells → Slot → Spot → Cells
marked cells slot at = filled (is_none (cell cells slot)) cells slot at

-- how many cells are empty
unfoldable pub count_empty : Cells → ℕ
count_empty = sum_by (λ (c : Option Spot). if is_none c then 1 else 0)
