use Rattle.std.proofs.Common.{length}
use Rattle.flt_explain_timeline.proofs.columns.+alive_in.Given as goal

abbrev pub decreases-alive_in : goal.decreases-alive_in
decreases-alive_in l = length l.tenants.now
