use Rattle.std.proofs.Common.{drop, ap, ◌∙◌}
use Rattle.flt_cbdq.specs.Queues.{Queueing}
use Rattle.flt_model.specs.World.{Store, queue_at, with_queue}
use Rattle.flt_machine_store.proofs.Carried.{with_queues, next_carried}
use Rattle.flt_machine_store.proofs.Listed.{next_up_to}
use Rattle.flt_machine_store.specs.contracts.store.Store.{the_view}
use Rattle.flt_machine_store.proofs.store.Store.remove_next.Goals as goal

pub invariant_of-self : goal.invariant_of-self
invariant_of-self c = rw c.remove_next.ensures.rest (record {
  filters = c.self.invariant.filters;
  locked = c.self.invariant.locked;
  closed = c.self.invariant.closed;
  disabled = c.self.invariant.disabled;
  queued = next_up_to c.self.inside.greatest_queued c.self.inside.queues.queues c.args.filter c.self.invariant.queued;
})

pub returns : goal.returns
returns c =
    let s = the_view c.self.inside in
    let f = c.args.filter in
    ap (λ (q : Queueing). with_queues s q) c.remove_next.ensures.rest ∙ next_carried s c.self.inside.queues f
    ∙ ap (λ (r : Store). with_queue r f (drop 1 (queue_at r f))) c.self.view_is
