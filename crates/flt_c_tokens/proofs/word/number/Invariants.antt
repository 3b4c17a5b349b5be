use Rattle.std.proofs.Common.{◌≡◌, ◌+◌, ◌≤◌, length}
use Rattle.flt_c_tokens.specs.Words.{number_from}
use Rattle.flt_c_tokens.proofs.word.number.Given as goal

abbrev pub invariant-loop-rest : goal.invariant-loop-rest
invariant-loop-rest l =
    record {
      same : number_from l.length l.last l.rest ≡ number_from 1 l.first l.after;
      some : 1 ≤ l.length;
      within : l.length + length l.rest ≡ 1 + length l.after;
    }

abbrev pub decreases-loop-rest : goal.decreases-loop-rest
decreases-loop-rest l = length l.rest
