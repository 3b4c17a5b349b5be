use Rattle.std.proofs.Common.{◌≡◌, ◌-◌, length}
use Rattle.flt_cert.specs.ThinReading.{padded}
use Rattle.flt_cert.proofs.thin_reader.pad.Given as goal

abbrev pub invariant-loop-found : goal.invariant-loop-found
invariant-loop-found l = padded l.count l.found ≡ padded l.count l.initial.found

abbrev pub decreases-loop-found : goal.decreases-loop-found
decreases-loop-found l = l.count - length l.found
