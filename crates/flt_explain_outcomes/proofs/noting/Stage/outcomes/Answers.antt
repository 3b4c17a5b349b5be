use Rattle.flt_explain_outcomes.proofs.Runs.{outcomes_of}
use Rattle.flt_explain_outcomes.proofs.noting.Stage.outcomes.Goals as goal

pub returns : goal.returns
returns g c =
    outcomes_of c.args.self.now.search.is_stack c.args.self.now.trees.now c.args.known c.args.outlook.now c.args.reported.now
    c.in_ok-found.found.items
    c.in_ok-outcomes.outcomes.items c.requires.same c.in_ok-found.ensures (rw c.as_slice.ensures.value at c.in_ok-outcomes.ensures)
