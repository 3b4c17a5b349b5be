use Rattle.std.proofs.Common.{◌≡◌, ◌++◌, false, drop, map}
use Rattle.flt_explain_origins.specs.declared.grouping.TracedFinding.{TracedFinding}
use Rattle.flt_explain_reports.specs.Finding.{listed_from}
use Rattle.flt_explain_reports.proofs.finding_report.tell_others.Given as goal

abbrev pub invariant-loop-other : goal.invariant-loop-other
invariant-loop-other l =
    l.page.out.items ++ listed_from l.files l.home l.told l.last (map (λ (t : TracedFinding). t.finding.line) (drop l.other-index l.others))
    ≡ l.initial.page.out.items ++ listed_from l.files l.home false 0 (map (λ (t : TracedFinding). t.finding.line) l.others)
