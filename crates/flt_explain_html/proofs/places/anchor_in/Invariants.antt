use Rattle.std.proofs.Common.{◌≡◌, drop}
use Rattle.flt_explain_html.specs.Places.{anchor_from}
use Rattle.flt_explain_html.proofs.places.anchor_in.Given as goal

abbrev pub invariant-loop-text : goal.invariant-loop-text
invariant-loop-text l = anchor_from l.text (drop l.text l.heads) l.row ≡ anchor_from 0 l.heads l.row
