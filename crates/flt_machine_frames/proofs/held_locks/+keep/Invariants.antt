use Rattle.std.proofs.Common.{length}
use Rattle.flt_machine_frames.proofs.held_locks.+keep.Given as goal

abbrev pub decreases-keep : goal.decreases-keep
decreases-keep l = length l.locks.now
