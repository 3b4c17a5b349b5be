use Rattle.std.proofs.Common.{◌≡◌, take}
use Rattle.flt_cert.specs.Thin.{thin}
use Rattle.flt_cert.proofs.thinning.thin_full.Given as goal

abbrev pub invariant-loop-callback : goal.invariant-loop-callback
invariant-loop-callback l = l.callbacks ≡ thin l.graph (take l.callback l.full)
