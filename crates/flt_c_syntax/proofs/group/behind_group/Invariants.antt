use Rattle.std.proofs.Common.{◌≡◌, ◌+◌, ◌≤◌, length}
use Rattle.flt_c_syntax.specs.Groups.{behind_open}
use Rattle.flt_c_syntax.proofs.group.behind_group.Given as goal

abbrev pub decreases-loop-rest : goal.decreases-loop-rest
decreases-loop-rest l = length l.rest

abbrev pub invariant-loop-rest : goal.invariant-loop-rest
invariant-loop-rest l =
    record {
      same : behind_open 0 l.fn.tokens ≡ behind_open l.deep l.rest;
      below : l.deep + length l.rest ≤ length l.fn.tokens;
    }
