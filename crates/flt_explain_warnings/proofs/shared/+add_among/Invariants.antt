use Rattle.std.proofs.Common.{length}
use Rattle.flt_explain_warnings.proofs.shared.+add_among.Given as goal

abbrev pub decreases-add_among : goal.decreases-add_among
decreases-add_among l = length l.variables.now
