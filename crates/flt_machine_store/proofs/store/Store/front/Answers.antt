use Rattle.std.proofs.Common.{◌∙◌}
use Rattle.flt_machine_store.proofs.Reading.{front_there}
use Rattle.flt_machine_store.proofs.store.Store.front.Goals as goal

pub returns : goal.returns
returns c = rw (← c.self.view_is)
    (front_there c.self.inside.queues.queues c.args.filter c.copied.result (c.copied.ensures ∙ c.entry.ensures))
