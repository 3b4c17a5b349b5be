use Rattle.std.proofs.Common.{length}
use Rattle.flt_explain.proofs.at_point.+add.Given as goal

abbrev pub decreases-add : goal.decreases-add
decreases-add l = length l.subjects.now
