use Rattle.std.proofs.Common.{subst}
use Rattle.flt_model.specs.Program.{HasDistinctAltitudes}
use Rattle.flt_stack.proofs.loaded.Loaded.boards_can_come_to_rest.Goals as goal

pub returns-clause-moving : goal.returns-clause-moving
returns-clause-moving c own =
    c.orderly_filters_come_to_rest.ensures.moving _ own.transitions own.moment c.requires.ordered own.runs

pub returns-clause-unloading : goal.returns-clause-unloading
returns-clause-unloading c own altitude =
    c.orderly_filters_come_to_rest.ensures.unloading _ own.transitions own.moment altitude c.requires.ordered own.runs

pub returns-clause-resting : goal.returns-clause-resting
returns-clause-resting c own =
    c.orderly_filters_come_to_rest.ensures.resting _ own.transitions own.moment c.requires.ordered
    (subst HasDistinctAltitudes c.self.view_is c.self.invariant.distinct) own.runs
