use Rattle.std.proofs.Common.{◌≡◌, ◌++◌, length}
use Rattle.flt_c_macros.specs.Bodies.{filled}
use Rattle.flt_c_macros.proofs.body.fill.Given as goal

abbrev pub invariant-loop-tokens : goal.invariant-loop-tokens
invariant-loop-tokens l =
    filled l.given l.rest l.at 0 l.body ≡ l.words ++ filled l.given l.rest l.at l.joint l.tokens

abbrev pub decreases-loop-tokens : goal.decreases-loop-tokens
decreases-loop-tokens l = length l.tokens
