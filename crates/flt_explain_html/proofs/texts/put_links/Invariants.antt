use Rattle.std.proofs.Common.{◌≡◌, ◌++◌, drop}
use Rattle.flt_explain_html.specs.Texts.{links_from}
use Rattle.flt_explain_html.proofs.texts.put_links.Given as goal

abbrev pub invariant-loop-number : goal.invariant-loop-number
invariant-loop-number l = l.out.items ++ links_from l.number (drop l.number l.texts) ≡ l.initial.out.items ++ links_from 0 l.texts
