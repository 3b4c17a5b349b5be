use Rattle.std.proofs.Common.{◌≡◌, ◌≤◌, ◌<◌, ◌-◌, ℕ, false, length}
use Rattle.flt_files.specs.Split as spec
use Rattle.flt_files.proofs.split.certificate_start.Given as goal

abbrev pub invariant-loop-start : goal.invariant-loop-start
invariant-loop-start l = record {
  within : l.start ≤ length l.input;
  earlier : (at : ℕ) → at < l.start → spec.is_header_at l.input at ≡ false;
}

abbrev pub decreases-loop-start : goal.decreases-loop-start
decreases-loop-start l = length l.input - l.start
