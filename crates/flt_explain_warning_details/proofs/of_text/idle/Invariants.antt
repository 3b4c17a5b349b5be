use Rattle.std.proofs.Common.{◌≡◌, ◌++◌, ◌-◌}
use Rattle.flt_explain_warning_details.specs.Details.{idle, idle_from}
use Rattle.flt_explain_warning_details.specs.Parsed.{of_parsed}
use Rattle.flt_explain_warning_details.proofs.of_text.idle.Given as goal

-- what was said, with what is said of the comments that are left, is what is said of all
abbrev pub invariant-loop-number : goal.invariant-loop-number
invariant-loop-number l =
    l.all ++ idle_from (of_parsed l.text) l.comments.all.now l.warnings l.number (l.number-end - l.number)
    ≡ idle (of_parsed l.text) l.comments.all.now l.warnings
