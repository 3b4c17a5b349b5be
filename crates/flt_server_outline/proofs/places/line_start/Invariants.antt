use Rattle.std.proofs.Common.{◌≡◌, drop}
use Rattle.flt_places.specs.Places.{rest_behind}
use Rattle.flt_server_outline.proofs.places.line_start.Given as goal

abbrev pub invariant-loop-byte : goal.invariant-loop-byte
invariant-loop-byte l =
    (l.at ≡ l.byte-index) × (rest_behind l.left (drop l.byte-index l.text) ≡ rest_behind l.fn.lines l.text)
