use Rattle.std.proofs.Common.{◌≡◌, ◌-◌}
use Rattle.flt_cert.specs.ThinReading.{slots_from}
use Rattle.flt_cert.proofs.thin_reader.slots_from.Given as goal

abbrev pub invariant-loop-turn : goal.invariant-loop-turn
invariant-loop-turn l =
    slots_from (l.count - l._turn) l.count l.found l.lines ≡ slots_from l.count l.count l.initial.found l.initial.lines
