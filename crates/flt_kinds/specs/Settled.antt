-- Cells in which all is that follows from the statements that set contexts, and nothing else.
use Rattle.std.specs.Prelude.{◌≡◌, false, length, Some, is_none}
use Rattle.flt_rules.specs.declared.call.Anchor.{Anchor}
use Rattle.flt_graph.specs.declared.graph.Graph.{Graph}
use Rattle.flt_kinds.specs.Cells.{Cells, cell, cells_for}
use Rattle.flt_kinds.specs.Kinds.{MaySet}
use Rattle.flt_kinds.specs.declared.slot.Slot.{Slot}
use Rattle.flt_kinds.specs.declared.slot.Spot.{Spot}

-- what a cell has is a statement that may set the context that is there
unfoldable pub IsJust : Graph → Anchor → Cells → Type 0
IsJust g anchor cells = (slot : Slot) (at : Spot) → cell cells slot ≡ Some at → MaySet g anchor slot at

-- each place has one whose context may be set
unfoldable pub IsComplete : Graph → Anchor → Cells → Type 0
IsComplete g anchor cells = (slot : Slot) (at : Spot) → MaySet g anchor slot at → is_none (cell cells slot) ≡ false

pub record IsSettled (g : Graph) (anchor : Anchor) (cells : Cells) : Type 0 where
  pub sized : length cells ≡ cells_for (length g.callbacks)
  pub just : IsJust g anchor cells
  pub complete : IsComplete g anchor cells
