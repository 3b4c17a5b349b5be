use Rattle.std.proofs.Common.{length}
use Rattle.flt_model.proofs.effects.+push_uses.Given as goal

abbrev pub decreases-push_uses : goal.decreases-push_uses
decreases-push_uses g l = length l.needs.now
