use Rattle.std.proofs.Common.{◌≡◌, ◌+◌, length}
use Rattle.flt_c_tokens.specs.Scan.{continuations_from}
use Rattle.flt_c_tokens.proofs.scan.continuations.Given as goal

abbrev pub invariant-loop-rest : goal.invariant-loop-rest
invariant-loop-rest l =
    (continuations_from l.length l.left l.rest ≡ continuations_from 0 0 l.z) × (l.length + length l.rest ≡ length l.z)

abbrev pub decreases-loop-rest : goal.decreases-loop-rest
decreases-loop-rest l = length l.rest
