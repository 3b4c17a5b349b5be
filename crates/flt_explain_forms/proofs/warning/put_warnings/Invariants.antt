use Rattle.std.proofs.Common.{◌≡◌, ◌++◌, flat_map, take}
use Rattle.flt_explain_forms.specs.Warning.{warning_line}
use Rattle.flt_explain_forms.proofs.warning.put_warnings.Given as goal

abbrev pub invariant-loop-detail : goal.invariant-loop-detail
invariant-loop-detail l = l.out.items ≡ l.initial.out.items ++ flat_map (warning_line l.files) (take l.detail-index l.warned)
