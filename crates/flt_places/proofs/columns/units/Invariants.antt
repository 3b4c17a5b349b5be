use Rattle.std.proofs.Common.{◌≡◌, ◌≤◌, ◌*◌, take}
use Rattle.flt_places.specs.Columns.{units}
use Rattle.flt_places.proofs.columns.units.Given as goal

abbrev pub invariant-loop-byte : goal.invariant-loop-byte
invariant-loop-byte l = (l.units ≡ units (take l.byte-index l.bytes)) × (l.units ≤ 2 * l.byte-index)
