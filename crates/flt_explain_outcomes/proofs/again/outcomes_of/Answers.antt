use Rattle.flt_explain_outcomes.proofs.Runs.{outcomes_again}
use Rattle.flt_explain_outcomes.proofs.again.outcomes_of.Goals as goal

pub returns : goal.returns
returns g c =
    outcomes_again c.args.setter.now.trees _ c.args.found.now c.in_ok-again.again.items c.in_ok-all.all.items c.requires.alone
    c.in_ok-again.ensures (rw (c.as_slice.ensures.value, c.as_slice-2.ensures) at c.in_ok-all.ensures)
