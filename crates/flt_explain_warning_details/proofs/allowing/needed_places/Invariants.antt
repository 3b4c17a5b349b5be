use Rattle.std.proofs.Common.{take}
use Rattle.flt_explain_warning_details.specs.Indexed.{AreNeeded}
use Rattle.flt_explain_warning_details.specs.Parsed.{of_parsed}
use Rattle.flt_explain_warning_details.proofs.allowing.needed_places.Given as goal

abbrev pub invariant-loop-warning : goal.invariant-loop-warning
invariant-loop-warning l =
    AreNeeded (of_parsed l.text) l.comments.all.now (take l.warning-index l.warnings) l.places
