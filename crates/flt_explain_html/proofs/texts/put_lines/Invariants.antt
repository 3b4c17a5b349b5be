use Rattle.std.proofs.Common.{◌≡◌, ◌++◌, drop}
use Rattle.flt_explain_html.specs.Texts.{lines_from}
use Rattle.flt_explain_html.proofs.texts.put_lines.Given as goal

abbrev pub invariant-loop-number : goal.invariant-loop-number
invariant-loop-number l =
    l.out.items ++ lines_from l.places l.text l.number (drop l.number l.lines)
    ≡ l.initial.out.items ++ lines_from l.places l.text 0 l.lines
