use Rattle.std.proofs.Common.{◌≡◌, drop}
use Rattle.flt_emit_read.specs.Unfit.{unfit_in}
use Rattle.flt_emit_read.proofs.unfit.+unfit.Given as goal

abbrev pub invariant-unfit_in-loop-statement : goal.invariant-unfit_in-loop-statement
invariant-unfit_in-loop-statement l = unfit_in l.place l.body ≡ unfit_in l.place (drop l.statement-index l.body)
