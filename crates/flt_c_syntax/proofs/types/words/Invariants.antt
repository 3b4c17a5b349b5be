use Rattle.std.proofs.Common.{◌≡◌, ◌++◌, length}
use Rattle.flt_c_syntax.specs.Tokens.{run, words}
use Rattle.flt_c_syntax.proofs.types.words.Given as goal

abbrev pub decreases-loop-rest : goal.decreases-loop-rest
decreases-loop-rest l = length l.rest

abbrev pub invariant-loop-rest : goal.invariant-loop-rest
invariant-loop-rest l = words (run l.part l.fn.tokens) ≡ l.found ++ words (run l.part l.rest)
