use Rattle.std.proofs.Common.{ap}
use Rattle.flt_explain_outcomes.specs.Readings.{sources_read}
use Rattle.flt_explain_outcomes.proofs.Studied.{nothing_read}
use Rattle.flt_explain_outcomes.proofs.readings.read_all.Goals as goal

pub loop-source-init : goal.loop-source-init
loop-source-init c = (nothing_read _ c.new.ensures c.new-2.ensures.items, ap sources_read c.new-2.ensures.items)
