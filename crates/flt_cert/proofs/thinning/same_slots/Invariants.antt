use Rattle.std.proofs.Common.{◌≡◌, ◌++◌, drop}
use Rattle.flt_cert.proofs.thinning.same_slots.Given as goal

abbrev pub invariant-loop-slot : goal.invariant-loop-slot
invariant-loop-slot l = l.same ++ drop l.slot-index l.slots ≡ l.slots
