use Rattle.std.proofs.Common.{◌≡◌, ◌++◌, take, drop}
use Rattle.flt_explain_html.specs.Places.{digits_at}
use Rattle.flt_explain_html.proofs.places.digits_at.Given as goal

abbrev pub invariant-loop-at : goal.invariant-loop-at
invariant-loop-at l = take l.at l.bytes ++ digits_at (drop l.at l.bytes) ≡ digits_at l.bytes
