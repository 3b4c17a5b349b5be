use Rattle.std.proofs.Common.{◌≡◌, drop}
use Rattle.flt_emit_read.specs.Unfit.{callbacks_unfit}
use Rattle.flt_emit_read.proofs.unfit.unfit_callbacks.Given as goal

abbrev pub invariant-loop-callback : goal.invariant-loop-callback
invariant-loop-callback l = callbacks_unfit l.callbacks ≡ callbacks_unfit (drop l.callback-index l.callbacks)
