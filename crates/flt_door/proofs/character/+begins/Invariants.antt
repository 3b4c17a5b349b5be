use Rattle.std.proofs.Common.{length}
use Rattle.flt_door.proofs.character.+begins.Given as goal

abbrev pub decreases-begins : goal.decreases-begins
decreases-begins l = length l.ranges.now
