use Rattle.std.proofs.Common.{◌≡◌, ◌+◌, ◌<◌, ◌^◌, ◌++◌, length}
use Rattle.flt_c_items.specs.Rows.{begun, elements_from}
use Rattle.flt_c_items.proofs.rows.elements_from.Given as goal

abbrev pub invariant-loop-rest : goal.invariant-loop-rest
invariant-loop-rest l =
    record {
      same : elements_from (begun l.fn.from) l.fn.from l.fn.tokens ≡ l.found ++ elements_from l.p l.at l.rest;
      within : l.at + length l.rest < 2 ^ 64;
    }

abbrev pub decreases-loop-rest : goal.decreases-loop-rest
decreases-loop-rest l = length l.rest
