use Rattle.std.proofs.Common.{length}
use Rattle.flt_explain.proofs.at_point.+blame.Given as goal

abbrev pub decreases-blame : goal.decreases-blame
decreases-blame l = length l.operands.now
