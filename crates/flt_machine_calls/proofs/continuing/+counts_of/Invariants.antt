use Rattle.std.proofs.Common.{length}
use Rattle.flt_machine_calls.proofs.continuing.+counts_of.Given as goal

abbrev pub decreases-counts_of : goal.decreases-counts_of
decreases-counts_of l = length l.events.now
