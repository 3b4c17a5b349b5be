use Rattle.std.proofs.Common.{◌≡◌, drop}
use Rattle.flt_syntax.specs.Whole.{first_fault}
use Rattle.flt_syntax.proofs.whole.first_fault.Given as goal

abbrev pub invariant-loop-callback : goal.invariant-loop-callback
invariant-loop-callback l =
    first_fault l.callbacks l.some ≡ first_fault l.callbacks (drop l.callback-index l.some)
