use Rattle.std.proofs.Common.{length}
use Rattle.flt_explain_timeline.proofs.callbacks.+callback_for.Given as goal

abbrev pub decreases-callback_for : goal.decreases-callback_for
decreases-callback_for l = length l.callbacks.now
