use Rattle.std.proofs.Common.{◌≡◌, take}
use Rattle.flt_check.specs.Full.{full_points}
use Rattle.flt_check.proofs.filling.fill_points.Given as goal

abbrev pub invariant-loop-place : goal.invariant-loop-place
invariant-loop-place l = l.points ≡ full_points l.graph l.callback (take l.place l.slots)
