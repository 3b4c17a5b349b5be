use Rattle.flt_explain_warning_details.specs.Comments.{needless_title}
use Rattle.flt_explain_warning_details.proofs.comments.tell_needless_title.Goals as goal

pub returns : goal.returns
unfolding needless_title
returns c = rw (← c.name.ensures) c.say.ensures
