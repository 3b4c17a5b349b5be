use Rattle.std.proofs.Common.{◌≡◌, ◌≤◌, ◌-◌, drop, length}
use Rattle.flt_c_drift.specs.Reading.{marks_from, marks_of, state_in}
use Rattle.flt_c_drift.proofs.reader.marks.Given as goal

abbrev pub invariant-loop-at : goal.invariant-loop-at
invariant-loop-at l = (l.at ≤ length l.letters) × (marks_from l.at (state_in l.reader) (drop l.at l.letters) ≡ marks_of l.letters)

abbrev pub decreases-loop-at : goal.decreases-loop-at
decreases-loop-at l = length l.letters - l.at
