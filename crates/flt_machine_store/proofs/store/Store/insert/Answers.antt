use Rattle.std.proofs.Common.{[], ◌∷◌, ◌++◌, ap, ◌∙◌}
use Rattle.flt_cbdq.specs.Queues.{Queueing}
use Rattle.flt_cbdq.specs.declared.entry.Entry as kept
use Rattle.flt_model.specs.World.{Store, queue_at, with_queue}
use Rattle.flt_machine_store.proofs.Carried.{with_queues, insert_carried}
use Rattle.flt_machine_store.specs.Parts.{entry_of}
use Rattle.flt_machine_store.specs.contracts.store.Store.{the_view}
use Rattle.flt_machine_store.proofs.store.Store.insert.Goals as goal

pub returns-in-Ok-clause-ok : goal.returns-in-Ok-clause-ok
returns-in-Ok-clause-ok c =
    let s = the_view c.self.inside in
    let f = c.args.filter in
    let e : kept.Entry = record { visit = c.args.visit; context = c.args.context } in
    ap (λ (q : Queueing). with_queues s q) c.in-Ok.ensures.queued ∙ insert_carried s c.self.inside.queues f e
    ∙ ap (λ (r : Store). with_queue r f (queue_at r f ++ entry_of e ∷ [])) c.self.view_is
