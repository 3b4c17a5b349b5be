use Rattle.std.proofs.Common.{◌≡◌, ◌+◌, ◌≤◌, length, false}
use Rattle.flt_c_tokens.specs.Scan.{block_from}
use Rattle.flt_c_tokens.proofs.scan.block_comment.Given as goal

abbrev pub invariant-loop-rest : goal.invariant-loop-rest
invariant-loop-rest l =
    record {
      same : block_from l.length l.is_star l.left l.rest ≡ block_from l.read false 0 l.z;
      some : l.read ≤ l.length;
      within : l.length + length l.rest ≡ l.read + length l.z;
    }

abbrev pub decreases-loop-rest : goal.decreases-loop-rest
decreases-loop-rest l = length l.rest
