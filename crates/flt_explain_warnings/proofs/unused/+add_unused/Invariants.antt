use Rattle.std.proofs.Common.{length}
use Rattle.flt_explain_warnings.proofs.unused.+add_unused.Given as goal

abbrev pub decreases-add_unused : goal.decreases-add_unused
decreases-add_unused l = length l.locks.now
