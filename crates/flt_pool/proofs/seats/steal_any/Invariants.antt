use Rattle.std.proofs.Common.{◌≡◌, length}
use Rattle.flt_pool.specs.Seats.{hands_of_ways, reached}
use Rattle.flt_pool.proofs.seats.steal_any.Given as goal

abbrev pub invariant-loop-k : goal.invariant-loop-k
invariant-loop-k g l =
    (length l.ways ≡ length l.initial.ways)
    × (hands_of_ways l.ways ≡ hands_of_ways l.initial.ways)
    × (reached l.ways ≡ reached l.initial.ways)
