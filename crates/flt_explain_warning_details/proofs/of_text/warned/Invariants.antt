use Rattle.std.proofs.Common.{◌≡◌, flat_map, take}
use Rattle.flt_explain_warning_details.specs.Details.{detail_by}
use Rattle.flt_explain_warning_details.specs.Parsed.{of_parsed}
use Rattle.flt_explain_warning_details.proofs.of_text.warned.Given as goal

abbrev pub invariant-loop-warning : goal.invariant-loop-warning
invariant-loop-warning l =
    l.all ≡ flat_map (detail_by (of_parsed l.text) l.allowed l.comments.all.now) (take l.warning-index l.warnings)
