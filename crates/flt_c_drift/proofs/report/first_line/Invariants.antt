use Rattle.std.proofs.Common.{◌≡◌, ◌++◌, take, drop}
use Rattle.flt_places.specs.Places as spec
use Rattle.flt_c_drift.proofs.report.first_line.Given as goal

abbrev pub invariant-loop-byte : goal.invariant-loop-byte
invariant-loop-byte l =
    (l.length ≡ l.byte-index) × (take l.byte-index l.bytes ++ spec.first_line (drop l.byte-index l.bytes) ≡ spec.first_line l.bytes)
