use Rattle.std.proofs.Common.{◌≡◌, ◌++◌, drop}
use Rattle.flt_explain_html.specs.Texts.{texts_from}
use Rattle.flt_explain_html.proofs.texts.put_texts.Given as goal

abbrev pub invariant-loop-number : goal.invariant-loop-number
invariant-loop-number l =
    l.out.items ++ texts_from l.places l.number (drop l.number l.texts) ≡ l.initial.out.items ++ texts_from l.places 0 l.texts
