use Rattle.std.proofs.Common.{length}
use Rattle.flt_explain_origins.proofs.about.+latest_taken.Given as goal

abbrev pub decreases-latest_taken : goal.decreases-latest_taken
decreases-latest_taken l = length l.locks.now
