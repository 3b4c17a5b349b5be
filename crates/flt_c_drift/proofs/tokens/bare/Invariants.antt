use Rattle.std.proofs.Common.{◌≡◌}
use Rattle.flt_c_drift.specs.Tokens.{bare}
use Rattle.flt_c_drift.proofs.tokens.bare.Given as goal

abbrev pub invariant-loop-pair : goal.invariant-loop-pair
invariant-loop-pair l = l.rest ≡ bare l._pair l.tokens
