use Rattle.std.proofs.Common.{◌≡◌, ◌++◌, drop}
use Rattle.flt_explain_html.specs.Places.{heads}
use Rattle.flt_explain_html.proofs.places.heads.Given as goal

abbrev pub invariant-loop-text : goal.invariant-loop-text
invariant-loop-text l = l.heads ++ heads (drop l.text-index l.texts) ≡ heads l.texts
