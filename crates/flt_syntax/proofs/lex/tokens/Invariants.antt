use Rattle.std.proofs.Common.{length}
use Rattle.flt_syntax.proofs.Cut.{IsCut}
use Rattle.flt_syntax.proofs.lex.tokens.Given as goal

abbrev pub invariant-loop-rest : goal.invariant-loop-rest
invariant-loop-rest l = IsCut l.fn.text l.found.items l.number l.from l.end l.rest

abbrev pub decreases-loop-rest : goal.decreases-loop-rest
decreases-loop-rest l = length l.rest
