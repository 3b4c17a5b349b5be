use Rattle.flt_machine_store.proofs.Counts.{none_counted}
use Rattle.flt_machine_store.proofs.items.WorkItems.new.Goals as goal

pub invariant_of-result : goal.invariant_of-result
invariant_of-result c = none_counted c.new.result.items c.loop.waiting.items c.loop.counter c.new.ensures.items c.loop.invariant.counts
