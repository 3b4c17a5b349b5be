use Rattle.std.proofs.Common.{◌≡◌, ◌++◌, drop, map}
use Rattle.flt_explain_html.specs.Places.{places_from}
use Rattle.flt_explain_html.proofs.places.places.Given as goal

abbrev pub invariant-loop-number : goal.invariant-loop-number
invariant-loop-number l =
    l.places ++ places_from l.heads l.number (map (λ row. row.now) (drop l.number l.rows)) ≡
    places_from l.heads 0 (map (λ row. row.now) l.rows)
