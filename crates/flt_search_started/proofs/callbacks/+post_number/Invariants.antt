use Rattle.std.proofs.Common.{length}
use Rattle.flt_search_started.proofs.callbacks.+post_number.Given as goal

abbrev pub decreases-post_number : goal.decreases-post_number
decreases-post_number l = length l.callbacks.now
