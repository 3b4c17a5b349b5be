use Rattle.std.proofs.Common.{◌≡◌, ◌++◌, drop}
use Rattle.flt_cert.specs.Format.{joined}
use Rattle.flt_cert.specs.ThinFormat.{thin_callback_lines}
use Rattle.flt_cert.proofs.writer.write_thin.Given as goal

abbrev pub invariant-loop-at : goal.invariant-loop-at
invariant-loop-at l = l.out.items ++ joined (thin_callback_lines l.at (drop l.at l.thin)) ≡ l.initial.out.items
    ++ joined (thin_callback_lines 0 l.thin)
