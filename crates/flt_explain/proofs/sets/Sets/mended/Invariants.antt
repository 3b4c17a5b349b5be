use Rattle.std.proofs.Common.{◌≡◌, drop}
use Rattle.flt_explain.specs.Sets.{mended_of}
use Rattle.flt_explain.proofs.sets.Sets.mended.Given as goal

abbrev pub invariant-loop-fault : goal.invariant-loop-fault
invariant-loop-fault l = mended_of l.sets (drop l.fault-index l.faults) ≡ mended_of l.self l.faults
