use Rattle.flt_abs.proofs.Outcomes.{leads}
use Rattle.flt_abs.proofs.past.leads_past_follows_situations.Goals as goal

pub returns : goal.returns
returns c = leads
