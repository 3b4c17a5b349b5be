use Rattle.flt_costs.proofs.Spending.{board_spends, local_spends}
use Rattle.flt_costs.proofs.laws.steps_spend.Goals as goal

pub returns : goal.returns
returns c = record { hidden = local_spends; seen = board_spends }
