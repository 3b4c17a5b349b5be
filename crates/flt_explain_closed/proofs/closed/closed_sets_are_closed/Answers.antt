use Rattle.flt_explain_closed.proofs.Closing.{closed_from}
use Rattle.flt_explain_closed.proofs.closed.closed_sets_are_closed.Goals as goal

pub returns : goal.returns
returns c = λ g k locks ms h. closed_from c.leads_past_follows_situations.ensures c.is_partial_order.ensures.computed g k locks ms h
