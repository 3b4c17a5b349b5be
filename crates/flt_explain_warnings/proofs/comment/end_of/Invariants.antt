use Rattle.std.proofs.Common.{◌≡◌, ◌≤◌, drop}
use Rattle.flt_explain_warnings.specs.Comment as spec
use Rattle.flt_explain_warnings.proofs.Ends.{end_from}
use Rattle.flt_explain_warnings.proofs.comment.end_of.Given as goal

abbrev pub invariant-loop-byte : goal.invariant-loop-byte
invariant-loop-byte l = record {
  at : l.at ≡ l.byte-index;
  within : l.end ≤ l.byte-index;
  rest : end_from l.end l.byte-index (drop l.byte-index l.line) ≡ spec.end_of l.line;
}
