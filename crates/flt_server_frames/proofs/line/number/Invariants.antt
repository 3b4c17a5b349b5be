use Rattle.std.proofs.Common.{◌≡◌, ◌≤◌, length}
use Rattle.flt_server_frames.specs.Line as spec
use Rattle.flt_server_frames.proofs.line.number.Given as goal

abbrev pub invariant-loop-text : goal.invariant-loop-text
invariant-loop-text l = record {
  goes_on : spec.number_after l.number l.text ≡ spec.number_after 0 l.fn.text;
  few : l.number ≤ 1000000000000000000;
}

abbrev pub decreases-loop-text : goal.decreases-loop-text
decreases-loop-text l = length l.text
