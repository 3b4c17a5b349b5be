use Rattle.std.proofs.Common.{◌≡◌, ◌++◌, drop}
use Rattle.flt_cert.specs.Format.{joined, callback_lines}
use Rattle.flt_cert.proofs.writer.write_full.Given as goal

abbrev pub invariant-loop-at : goal.invariant-loop-at
invariant-loop-at l = l.out.items ++ joined (callback_lines l.at (drop l.at l.full)) ≡ l.initial.out.items
    ++ joined (callback_lines 0 l.full)
