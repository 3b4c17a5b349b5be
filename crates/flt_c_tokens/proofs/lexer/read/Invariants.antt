use Rattle.std.proofs.Common.{length}
use Rattle.flt_c_tokens.proofs.Cut.{IsCut}
use Rattle.flt_c_tokens.proofs.lexer.read.Given as goal

abbrev pub invariant-loop-rest : goal.invariant-loop-rest
invariant-loop-rest l = IsCut l.fn.file l.fn.spellings l.spellings l.found.items l.at l.rest

abbrev pub decreases-loop-rest : goal.decreases-loop-rest
decreases-loop-rest l = length l.rest
