use Rattle.std.proofs.Common.{sym}
use Rattle.flt_machine_store.specs.Stores.{world_of}
use Rattle.flt_machine_dispatch.proofs.Starting.{work_is}
use Rattle.flt_machine_dispatch.proofs.waiting.work.Goals as goal

pub returns-clause-decided : goal.returns-clause-decided
returns-clause-decided c p actors activations loaded same =
    let item = c.in_ok-item.item in
    work_is p (world_of c.args.store.now actors activations) c.args.number item.filter item.routine item.visit item.context
    c.place.result
    (sym c.in_ok-item.ensures) (c.place.ensures p loaded)
