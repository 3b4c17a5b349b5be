use Rattle.std.proofs.Common.{take}
use Rattle.std.specs.List.{AllZip}
use Rattle.std.specs.Prelude.{All, Contains}
use Rattle.flt_search_deadlocks.specs.Deadlocks.{WaitsAt}
use Rattle.flt_search_deadlocks.proofs.judging.waiting_round.Given as goal

abbrev pub invariant-loop-acquisition : goal.invariant-loop-acquisition
invariant-loop-acquisition l =
    All (Contains l.waits) l.round.items × AllZip (WaitsAt l.filter) (take l.acquisition-index l.circle) l.round.items
