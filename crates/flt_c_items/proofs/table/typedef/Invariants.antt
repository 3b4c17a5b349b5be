use Rattle.std.proofs.Common.{◌≡◌, ◌+◌, ◌<◌, ◌^◌, length}
use Rattle.flt_c_items.specs.Rows.{stretch, typedef_from}
use Rattle.flt_c_items.proofs.table.typedef.Given as goal

abbrev pub invariant-loop-rest : goal.invariant-loop-rest
invariant-loop-rest l =
    record {
      same : typedef_from 0 l.fn.from (stretch l.fn.from l.fn.to l.fn.tokens) ≡ typedef_from l.depth l.at l.rest;
      within : l.at + length l.rest < 2 ^ 64;
    }

abbrev pub decreases-loop-rest : goal.decreases-loop-rest
decreases-loop-rest l = length l.rest
