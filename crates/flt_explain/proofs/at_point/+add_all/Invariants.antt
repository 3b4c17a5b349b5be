use Rattle.std.proofs.Common.{length}
use Rattle.flt_explain.proofs.at_point.+add_all.Given as goal

abbrev pub decreases-add_all : goal.decreases-add_all
decreases-add_all l = length l.rules.now
