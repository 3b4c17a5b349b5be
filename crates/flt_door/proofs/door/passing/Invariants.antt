use Rattle.std.proofs.Common.{◌≤◌, ◌-◌, true, length}
use Rattle.flt_door.specs.Door.{IsFront}
use Rattle.flt_door.proofs.door.passing.Given as goal

abbrev pub invariant-loop-at : goal.invariant-loop-at
invariant-loop-at l = record {
  within : l.at ≤ length l.bytes;
  front : IsFront l.bytes l.at true;
}

abbrev pub decreases-loop-at : goal.decreases-loop-at
decreases-loop-at l = length l.bytes - l.at
