use Rattle.std.proofs.Common.{◌≡◌, length}
use Rattle.flt_server_frames.specs.Line as spec
use Rattle.flt_server_frames.proofs.line.after_name.Given as goal

abbrev pub invariant-loop-name : goal.invariant-loop-name
invariant-loop-name l = spec.after_name l.name l.line ≡ spec.after_name l.fn.name l.fn.line

abbrev pub decreases-loop-name : goal.decreases-loop-name
decreases-loop-name l = length l.name
