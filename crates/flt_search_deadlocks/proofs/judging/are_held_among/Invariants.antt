use Rattle.std.proofs.Common.{take}
use Rattle.std.specs.Prelude.{All}
use Rattle.flt_search_deadlocks.specs.Deadlocks.{IsHeldAmong}
use Rattle.flt_search_deadlocks.proofs.judging.are_held_among.Given as goal

abbrev pub invariant-loop-wait : goal.invariant-loop-wait
invariant-loop-wait l = All (IsHeldAmong l.round) (take l.wait-index l.round)
