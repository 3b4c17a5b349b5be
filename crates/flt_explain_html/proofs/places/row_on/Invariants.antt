use Rattle.std.proofs.Common.{◌≡◌, drop}
use Rattle.flt_explain_html.specs.Places.{row_on}
use Rattle.flt_explain_html.proofs.places.row_on.Given as goal

abbrev pub invariant-loop-place : goal.invariant-loop-place
invariant-loop-place l = row_on (drop l.place-index l.places) l.anchor ≡ row_on l.places l.anchor
