use Rattle.std.proofs.Common.{take}
use Rattle.flt_explain_forms.specs.Lines.{AreLinesFrom}
use Rattle.flt_explain_forms.specs.RunMember.{members_in}
use Rattle.flt_explain_forms.proofs.as_lines.put_sources.Given as goal

abbrev pub invariant-loop-number : goal.invariant-loop-number
invariant-loop-number l =
    AreLinesFrom l.style l.options (members_in l.runs) 0 (take l.number l.sources) l.fn.out.items l.told.output.items l.told.status
