use Rattle.std.proofs.Common.{◌≡◌, ◌++◌, drop}
use Rattle.flt_explain_parts.specs.Counted.{counted}
use Rattle.flt_explain_forms.specs.Finding.{finding_lines, numbered_line}
use Rattle.flt_explain_forms.specs.RunMember.{members_in}
use Rattle.flt_explain_forms.proofs.finding.put_lines.Given as goal

-- the lines so far, with those of the other findings
abbrev pub invariant-loop-finding : goal.invariant-loop-finding
invariant-loop-finding l =
    l.out.items ++ counted (numbered_line l.files l.lines l.graph (members_in l.runs l.source)) l.finding (drop l.finding l.details)
    ≡ l.initial.out.items ++ finding_lines l.files l.lines l.graph (members_in l.runs l.source) l.details
