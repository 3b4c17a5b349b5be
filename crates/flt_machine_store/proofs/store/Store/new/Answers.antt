use Rattle.std.proofs.Common.{map, ap, ◌∙◌}
use Rattle.flt_cbdq.specs.Queues as cbdq
use Rattle.flt_machine_store.specs.Parts.{context_of, entry_of}
use Rattle.flt_machine_store.proofs.Fresh.{fresh_parts, no_entries}
use Rattle.flt_machine_store.proofs.store.Store.new.Goals as goal

pub invariant_of-result : goal.invariant_of-result
invariant_of-result c =
    fresh_parts c.in_ok-presences.presences.items c.in_ok-queues.queues 0 c.in_ok-contexts.contexts c.new-4.result
    c.in_ok-holders.holders.items c.args.filters c.in_ok-presences.ensures.attached c.in_ok-queues.ensures.empty
    c.in_ok-contexts.ensures.empty c.new-4.ensures c.in_ok-holders.ensures.unheld

pub returns-clause-empty : goal.returns-clause-empty
returns-clause-empty c = λ i. record {
  presences = c.in_ok-presences.ensures.attached i;
  queues = (ap (λ (q : cbdq.Queueing). map (map entry_of) q.queues) c.in_ok-queues.ensures.empty ∙ no_entries c.args.filters) i;
  holders = c.in_ok-holders.ensures.unheld i;
  arrivals = (c.new-4.ensures i).arrivals;
  routes = (c.new-4.ensures i).routes;
  visits = (c.new-4.ensures i).visits;
  settled = (c.new-4.ensures i).settled;
  contexts = map context_of (c.in_ok-contexts.ensures.empty i).contexts;
  items = c.in_ok-items.ensures.empty i;
}
