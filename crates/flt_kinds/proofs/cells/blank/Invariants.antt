use Rattle.std.proofs.Common.{◌≡◌, replicate, None}
use Rattle.flt_kinds.specs.Cells.{cells_for}
use Rattle.flt_kinds.proofs.cells.blank.Given as goal

abbrev pub invariant-loop-callback : goal.invariant-loop-callback
invariant-loop-callback l = l.cells.items ≡ replicate (cells_for l._callback) None
