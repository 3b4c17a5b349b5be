use Rattle.std.proofs.Common.{◌≡◌, ◌+◌, ◌≤◌, length}
use Rattle.flt_c_tokens.specs.Scan.{raw_from}
use Rattle.flt_c_tokens.proofs.scan.raw_string.Given as goal

abbrev pub invariant-loop-rest : goal.invariant-loop-rest
invariant-loop-rest l =
    record {
      same : raw_from l.delimiter l.length l.rest ≡ raw_from l.delimiter l.read l.z;
      some : l.read ≤ l.length;
      within : l.length + length l.rest ≡ l.read + length l.z;
    }

abbrev pub decreases-loop-rest : goal.decreases-loop-rest
decreases-loop-rest l = length l.rest
