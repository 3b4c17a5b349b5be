use Rattle.flt_search_started.proofs.Unasked.{never}
use Rattle.flt_search_started.proofs.laws.unstarted_callbacks_never_start.Goals as goal

pub returns : goal.returns
returns c = never c.callbacks_have_graphs.ensures.each c.unasked_callbacks_never_start.ensures.never
