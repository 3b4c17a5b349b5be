use Rattle.std.proofs.Common.{◌≡◌, take}
use Rattle.flt_explain_outcomes.specs.Readings.{AreReadings, sources_read}
use Rattle.flt_explain_outcomes.proofs.readings.read_all.Given as goal

abbrev pub invariant-loop-source : goal.invariant-loop-source
invariant-loop-source l =
    AreReadings l.readings × (sources_read l.readings.each.items ≡ take l.source-index l.sources)
