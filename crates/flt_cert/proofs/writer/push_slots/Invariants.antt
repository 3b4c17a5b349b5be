use Rattle.std.proofs.Common.{◌≡◌, ◌++◌, drop}
use Rattle.flt_cert.specs.Format.{joined}
use Rattle.flt_cert.specs.ThinFormat.{slot_lines}
use Rattle.flt_cert.proofs.writer.push_slots.Given as goal

abbrev pub invariant-loop-at : goal.invariant-loop-at
invariant-loop-at l = l.out.items ++ joined (slot_lines l.at (drop l.at l.slots)) ≡ l.initial.out.items ++ joined (slot_lines 0 l.slots)
