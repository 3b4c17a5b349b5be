use Rattle.std.proofs.Common.{length}
use Rattle.flt_explain_warnings.proofs.called.+latest.Given as goal

abbrev pub decreases-latest : goal.decreases-latest
decreases-latest l = length l.locks.now
