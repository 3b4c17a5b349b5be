use Rattle.std.proofs.Common.{◌≡◌, ◌++◌, drop}
use Rattle.flt_explain_reports.specs.Reports.{named, named_from}
use Rattle.flt_explain_reports.proofs.reports.tell_names.Given as goal

abbrev pub invariant-loop-file : goal.invariant-loop-file
invariant-loop-file l =
    l.page.out.items ++ named_from l.between l.is_behind (drop l.file-index l.files) ≡ l.initial.page.out.items ++ named l.between l.files
