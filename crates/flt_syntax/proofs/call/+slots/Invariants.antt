use Rattle.std.proofs.Common.{length}
use Rattle.flt_syntax.proofs.call.+slots.Given as goal

abbrev pub decreases-slots : goal.decreases-slots
decreases-slots l = length l.left.now
