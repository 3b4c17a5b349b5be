use Rattle.std.proofs.Common.{◌≡◌, ◌++◌, drop}
use Rattle.flt_c_macros.specs.Bodies.{words_of}
use Rattle.flt_c_macros.proofs.body.words_of.Given as goal

abbrev pub invariant-loop-token : goal.invariant-loop-token
invariant-loop-token l = words_of l.at l.body ≡ l.words ++ words_of l.at (drop l.token-index l.body)
