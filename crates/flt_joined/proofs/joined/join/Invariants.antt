use Rattle.std.proofs.Common.{◌≤◌, ◌-◌, length}
use Rattle.flt_joined.specs.Made.{AreFirstJoined}
use Rattle.flt_joined.proofs.joined.join.Given as goal

abbrev pub invariant-loop-first : goal.invariant-loop-first
invariant-loop-first l = record {
  within : l.first ≤ length l.files;
  joined : AreFirstJoined l.files l.first l.joined;
}

abbrev pub decreases-loop-first : goal.decreases-loop-first
decreases-loop-first l = length l.files - l.first
