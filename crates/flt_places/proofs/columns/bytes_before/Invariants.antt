use Rattle.std.proofs.Common.{◌≡◌, ◌+◌, drop}
use Rattle.flt_places.specs.Columns.{bytes_before}
use Rattle.flt_places.proofs.columns.bytes_before.Given as goal

abbrev pub invariant-loop-byte : goal.invariant-loop-byte
invariant-loop-byte l =
    (l.count ≡ l.byte-index) × (l.byte-index + bytes_before (drop l.byte-index l.line) l.left ≡ bytes_before l.line l.fn.units)
