use Rattle.std.proofs.Common.{sym}
use Rattle.flt_machine_store.specs.Stores.{world_of}
use Rattle.flt_machine_dispatch.proofs.Starting.{canceled_is}
use Rattle.flt_machine_dispatch.proofs.waiting.canceled.Goals as goal

pub returns-clause-decided : goal.returns-clause-decided
returns-clause-decided c p actors activations loaded same =
    let entry = c.in_ok-entry.entry in
    canceled_is p (world_of c.args.store.now actors activations) c.args.filter c.args.serial entry.visit entry.context
    c.canceled.result (sym c.if-not-may_cancel.ensures) (sym c.in_ok-entry.ensures) (c.canceled.ensures.body p loaded)
