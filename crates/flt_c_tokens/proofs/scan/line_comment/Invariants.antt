use Rattle.std.proofs.Common.{◌≡◌, ◌+◌, ◌≤◌, length}
use Rattle.flt_c_tokens.specs.Scan.{line_from}
use Rattle.flt_c_tokens.proofs.scan.line_comment.Given as goal

abbrev pub invariant-loop-rest : goal.invariant-loop-rest
invariant-loop-rest l =
    record {
      same : line_from l.length l.left l.rest ≡ line_from l.read 0 l.z;
      some : l.read ≤ l.length;
      within : l.length + length l.rest ≡ l.read + length l.z;
    }

abbrev pub decreases-loop-rest : goal.decreases-loop-rest
decreases-loop-rest l = length l.rest
