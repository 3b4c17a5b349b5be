use Rattle.std.proofs.Common.{◌≡◌, ◌+◌, ◌<◌, ◌^◌, length}
use Rattle.flt_c_items.specs.Rows.{start, start_from}
use Rattle.flt_c_items.proofs.table.start.Given as goal

abbrev pub invariant-loop-rest : goal.invariant-loop-rest
invariant-loop-rest l =
    record {
      same : start l.fn.words l.fn.tokens l.fn.from l.fn.to ≡ start_from l.fn.words l.head l.at l.rest;
      within : l.at + length l.rest < 2 ^ 64;
    }

abbrev pub decreases-loop-rest : goal.decreases-loop-rest
decreases-loop-rest l = length l.rest
