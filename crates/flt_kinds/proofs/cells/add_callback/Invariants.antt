use Rattle.std.proofs.Common.{◌≡◌, ◌++◌, replicate, None}
use Rattle.flt_kinds.proofs.cells.add_callback.Given as goal

abbrev pub invariant-loop-cell : goal.invariant-loop-cell
invariant-loop-cell l = l.cells.items ≡ l.fn.cells.items ++ replicate l._cell None
