use Rattle.std.proofs.Common.{length}
use Rattle.flt_cert.proofs.fields.+after.Given as goal

abbrev pub decreases-after : goal.decreases-after
decreases-after l = length l.front.now
