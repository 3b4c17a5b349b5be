use Rattle.std.proofs.Common.{◌≡◌, drop}
use Rattle.flt_c_macros.specs.Whole.{end_in}
use Rattle.flt_c_macros.proofs.whole.end_in.Given as goal

abbrev pub invariant-loop-token : goal.invariant-loop-token
invariant-loop-token l = end_in l.tokens ≡ end_in (drop l.token-index l.tokens)
