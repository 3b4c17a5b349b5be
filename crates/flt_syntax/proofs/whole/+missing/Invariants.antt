use Rattle.std.proofs.Common.{◌≡◌, drop}
use Rattle.flt_syntax.specs.Whole.{missing}
use Rattle.flt_syntax.proofs.whole.+missing.Given as goal

abbrev pub invariant-missing-loop-statement : goal.invariant-missing-loop-statement
invariant-missing-loop-statement l =
    missing l.callbacks l.from l.body ≡ missing l.callbacks l.from (drop l.statement-index l.body)
