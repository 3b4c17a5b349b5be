use Rattle.flt_explain_warning_details.proofs.Orderly.{orderly_without_circles}
use Rattle.flt_explain_warning_details.proofs.laws.texts_without_circles_are_orderly.Goals as goal

pub returns : goal.returns
returns c = orderly_without_circles c.spelled_is_well_formed.ensures
