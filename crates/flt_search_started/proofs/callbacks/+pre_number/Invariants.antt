use Rattle.std.proofs.Common.{length}
use Rattle.flt_search_started.proofs.callbacks.+pre_number.Given as goal

abbrev pub decreases-pre_number : goal.decreases-pre_number
decreases-pre_number l = length l.callbacks.now
