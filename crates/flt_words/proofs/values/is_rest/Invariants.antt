use Rattle.std.proofs.Common.{◌≡◌, length}
use Rattle.flt_words.specs.Values.{is_rest}
use Rattle.flt_words.proofs.values.is_rest.Given as goal

abbrev pub invariant-loop-rest : goal.invariant-loop-rest
invariant-loop-rest l = is_rest l.fn.bytes ≡ is_rest l.rest

abbrev pub decreases-loop-rest : goal.decreases-loop-rest
decreases-loop-rest l = length l.rest
