use Rattle.std.proofs.Common.{◌≡◌, ◌++◌, length, map}
use Rattle.flt_c_items.specs.Rows.{row}
use Rattle.flt_c_items.proofs.rows.rows_of.Given as goal

abbrev pub invariant-loop-rest : goal.invariant-loop-rest
invariant-loop-rest l = map (row l.fn.tokens) l.fn.elements ≡ l.found ++ map (row l.fn.tokens) l.rest

abbrev pub decreases-loop-rest : goal.decreases-loop-rest
decreases-loop-rest l = length l.rest
