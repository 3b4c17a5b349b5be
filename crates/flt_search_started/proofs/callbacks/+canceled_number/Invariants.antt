use Rattle.std.proofs.Common.{length}
use Rattle.flt_search_started.proofs.callbacks.+canceled_number.Given as goal

abbrev pub decreases-canceled_number : goal.decreases-canceled_number
decreases-canceled_number l = length l.callbacks.now
