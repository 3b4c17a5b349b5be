use Rattle.std.proofs.Common.{◌≡◌, ◌++◌, length}
use Rattle.std.specs.Prelude.{flat_map}
use Rattle.flt_c_functions.specs.Lines.{row_line}
use Rattle.flt_c_functions.proofs.table.put_rows.Given as goal

abbrev pub invariant-loop-rest : goal.invariant-loop-rest
invariant-loop-rest l =
    l.fn.out.items ++ flat_map (row_line l.fn.spellings l.fn.tokens) l.fn.rows
    ≡ l.out.items ++ flat_map (row_line l.fn.spellings l.fn.tokens) l.rest

abbrev pub decreases-loop-rest : goal.decreases-loop-rest
decreases-loop-rest l = length l.rest
