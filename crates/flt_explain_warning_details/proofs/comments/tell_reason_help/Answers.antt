use Rattle.flt_explain_warning_details.specs.Comments.{reason_help}
use Rattle.flt_explain_warning_details.proofs.comments.tell_reason_help.Goals as goal

pub returns : goal.returns
unfolding reason_help
returns c = rw (← c.name.ensures) c.texts.ensures
