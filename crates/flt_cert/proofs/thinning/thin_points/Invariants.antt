use Rattle.std.proofs.Common.{◌≡◌, take}
use Rattle.flt_cert.specs.Thin.{thin_points}
use Rattle.flt_cert.proofs.thinning.thin_points.Given as goal

abbrev pub invariant-loop-number : goal.invariant-loop-number
invariant-loop-number l = l.slots.items ≡ thin_points l.graph l.callback 0 (take l.number l.points)
