use Rattle.std.proofs.Common.{◌≡◌, ◌++◌, map, take}
use Rattle.crossbeam_deque.specs.Handles.{stealer_deque}
use Rattle.flt_pool.specs.Hands.{AreNewcomers}
use Rattle.flt_pool.specs.Seats.{hands_of_ways, reached}
use Rattle.flt_pool.proofs.opening.add_ways.Given as goal

abbrev pub invariant-loop-thief : goal.invariant-loop-thief
invariant-loop-thief l =
    (reached l.ways.items ≡ reached l.initial.ways.items ++ map stealer_deque (take l.thief-index l.thieves))
    × (AreNewcomers (hands_of_ways l.initial.ways.items) → AreNewcomers (hands_of_ways l.ways.items))
