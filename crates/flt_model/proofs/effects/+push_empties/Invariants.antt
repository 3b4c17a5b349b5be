use Rattle.std.proofs.Common.{length}
use Rattle.flt_model.proofs.effects.+push_empties.Given as goal

abbrev pub decreases-push_empties : goal.decreases-push_empties
decreases-push_empties g l = length l.needs.now
