use Rattle.std.proofs.Common.{◌≡◌, ◌++◌, drop}
use Rattle.flt_places.specs.Places as spec
use Rattle.flt_places.proofs.places.starts_of.Given as goal

abbrev pub invariant-loop-byte : goal.invariant-loop-byte
invariant-loop-byte l =
    (l.at ≡ l.byte-index) × (l.starts ++ spec.starts_from l.byte-index (drop l.byte-index l.text) ≡ spec.starts_from 0 l.text)
