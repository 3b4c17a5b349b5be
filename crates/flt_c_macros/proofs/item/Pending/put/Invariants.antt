use Rattle.std.proofs.Common.{◌≡◌, ◌≤◌, ◌++◌, length}
use Rattle.flt_c_macros.specs.Items.{items_of}
use Rattle.flt_c_macros.proofs.item.Pending.put.Given as goal

abbrev pub invariant-loop-rest : goal.invariant-loop-rest
invariant-loop-rest l =
    record {
      same : items_of l.rest ++ l.self ≡ items_of l.words ++ l.fn.self;
      within : length l.rest ≤ length l.words;
    }

abbrev pub decreases-loop-rest : goal.decreases-loop-rest
decreases-loop-rest l = length l.rest
