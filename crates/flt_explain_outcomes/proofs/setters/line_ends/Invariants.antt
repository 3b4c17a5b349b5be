use Rattle.std.proofs.Common.{◌≡◌, ◌≤◌, ◌+◌, drop}
use Rattle.flt_explain_outcomes.specs.Setters.{line_ends}
use Rattle.flt_explain_outcomes.proofs.setters.line_ends.Given as goal

abbrev pub invariant-loop-byte : goal.invariant-loop-byte
invariant-loop-byte l = record {
  counted : l.count + line_ends (drop l.byte-index l.text) ≡ line_ends l.text;
  within : l.count ≤ l.byte-index;
}
