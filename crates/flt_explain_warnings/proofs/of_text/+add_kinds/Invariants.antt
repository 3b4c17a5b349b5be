use Rattle.std.proofs.Common.{length}
use Rattle.flt_explain_warnings.proofs.of_text.+add_kinds.Given as goal

abbrev pub decreases-add_kinds : goal.decreases-add_kinds
decreases-add_kinds l = length l.kinds.now
