use Rattle.std.proofs.Common.{◌≡◌, ◌≤◌, ◌-◌, ◌++◌, drop, length}
use Rattle.flt_shown.specs.Shown.{shown}
use Rattle.flt_shown.proofs.shown.put_shown.Given as goal

abbrev pub invariant-loop-at : goal.invariant-loop-at
invariant-loop-at l = record {
  within : l.at ≤ length l.bytes;
  shown : l.out.items ++ shown (drop l.at l.bytes) ≡ l.initial.out.items ++ shown l.bytes;
}

abbrev pub decreases-loop-at : goal.decreases-loop-at
decreases-loop-at l = length l.bytes - l.at
