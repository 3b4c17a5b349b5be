use Rattle.std.proofs.Common.{◌≡◌, length}
use Rattle.flt_c_syntax.specs.Tokens.{behind}
use Rattle.flt_c_syntax.proofs.types.behind.Given as goal

abbrev pub decreases-loop-rest : goal.decreases-loop-rest
decreases-loop-rest l = length l.rest

abbrev pub invariant-loop-rest : goal.invariant-loop-rest
invariant-loop-rest l = behind l.part l.fn.tokens ≡ behind l.part l.rest
