use Rattle.std.proofs.Common.{◌≡◌, take}
use Rattle.flt_check.specs.Full.{full}
use Rattle.flt_check.proofs.filling.fill.Given as goal

abbrev pub invariant-loop-callback : goal.invariant-loop-callback
invariant-loop-callback l = l.callbacks ≡ full l.graph (take l.callback l.thin)
