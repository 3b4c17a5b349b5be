use Rattle.std.proofs.Common.{◌≡◌, ◌++◌, take, drop}
use Rattle.flt_places.specs.Places as spec
use Rattle.flt_server_outline.proofs.places.first_line.Given as goal

abbrev pub invariant-loop-byte : goal.invariant-loop-byte
invariant-loop-byte l =
    (l.length ≡ l.byte-index) × (take l.byte-index l.text ++ spec.first_line (drop l.byte-index l.text) ≡ spec.first_line l.text)
