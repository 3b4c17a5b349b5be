use Rattle.std.proofs.Common.{◌≡◌, ◌++◌, drop}
use Rattle.flt_cert.specs.Format.{joined, point_lines}
use Rattle.flt_cert.proofs.writer.push_callback.Given as goal

abbrev pub invariant-loop-at : goal.invariant-loop-at
invariant-loop-at l = l.out.items ++ joined (point_lines l.at (drop l.at l.points)) ≡ l.initial.out.items ++ joined (point_lines 0 l.points)
