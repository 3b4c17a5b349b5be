use Rattle.std.proofs.Common.{◌≡◌, ◌≤◌, length}
use Rattle.std.specs.Prelude.{reverse}
use Rattle.flt_c_macros.specs.Arguments.{IsNested, looked}
use Rattle.flt_c_macros.proofs.arguments.Search.look_in_items.Given as goal

abbrev pub invariant-loop-rest : goal.invariant-loop-rest
invariant-loop-rest l =
    record {
      same : looked l.busy (reverse l.backwards) l.fn.self ≡ looked l.busy (reverse l.rest) l.self;
      few : IsNested l.self;
      within : length l.rest ≤ length l.backwards;
    }

abbrev pub decreases-loop-rest : goal.decreases-loop-rest
decreases-loop-rest l = length l.rest
