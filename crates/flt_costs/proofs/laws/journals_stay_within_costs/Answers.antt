use Rattle.flt_costs.proofs.Starts.{few, started, none, limited}
use Rattle.flt_costs.proofs.laws.journals_stay_within_costs.Goals as goal

pub returns : goal.returns
returns c = record {
  few = λ p entries m a filter callback r h. few p a filter callback entries m r h;
  started = started;
  none = none;
  limited = limited;
}
