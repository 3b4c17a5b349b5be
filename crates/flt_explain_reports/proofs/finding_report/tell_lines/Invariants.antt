use Rattle.std.proofs.Common.{◌≡◌, ◌++◌, drop, map}
use Rattle.flt_explain_reports.specs.Finding.{shown_line}
use Rattle.flt_explain_reports.specs.Indents.{headed, headed_from}
use Rattle.flt_explain_reports.proofs.finding_report.tell_lines.Given as goal

abbrev pub invariant-loop-line : goal.invariant-loop-line
invariant-loop-line l =
    l.page.out.items ++ headed_from l.told l.word (map shown_line (map (λ b. b.now) (drop l.line-index l.lines)))
    ≡ l.initial.page.out.items ++ headed l.word (map shown_line (map (λ b. b.now) l.lines))
