use Rattle.std.proofs.Common.{◌≡◌, ◌≤◌, ◌-◌, ◌++◌, drop, length, take}
use Rattle.flt_door.specs.Door.{at_door}
use Rattle.flt_door.proofs.door.let_out.Given as goal

abbrev pub invariant-loop-at : goal.invariant-loop-at
invariant-loop-at l = record {
  same : length l.bytes ≡ length l.fn.bytes;
  within : l.at ≤ length l.bytes;
  out : take l.at l.bytes ++ at_door (drop l.at l.bytes) ≡ at_door l.fn.bytes;
}

abbrev pub decreases-loop-at : goal.decreases-loop-at
decreases-loop-at l = length l.bytes - l.at
