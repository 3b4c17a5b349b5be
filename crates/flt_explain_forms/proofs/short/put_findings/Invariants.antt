use Rattle.std.proofs.Common.{◌≡◌, ◌++◌, flat_map, take}
use Rattle.flt_explain_forms.specs.Short.{finding_line}
use Rattle.flt_explain_forms.proofs.short.put_findings.Given as goal

abbrev pub invariant-loop-detail : goal.invariant-loop-detail
invariant-loop-detail l = l.out.items ≡ l.initial.out.items ++ flat_map (finding_line l.files) (take l.detail-index l.details)
