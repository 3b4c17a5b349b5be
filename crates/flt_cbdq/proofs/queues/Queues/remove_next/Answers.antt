use Rattle.std.proofs.Common.{◌∙◌, ap, drop}
use Rattle.ilist_core.specs.NodeLists.{Sequences}
use Rattle.flt_cbdq.specs.Queues.{Queueing, queue_of, with_queue}
use Rattle.flt_cbdq.proofs.Entries.{popped_seen}
use Rattle.flt_cbdq.proofs.Noted.{disabled_same}
use Rattle.flt_cbdq.proofs.queues.Queues.remove_next.Goals as goal

pub returns-clause-rest : goal.returns-clause-rest
returns-clause-rest c =
    (λ i. record {
      queues = popped_seen c.self.inside.entries.items c.self.inside.lists c.args.filter c.in_ok-list.list c.pop_front.new.self
          c.remove_node.new.self c.in_ok-list.ensures.there.0 c.pop_front.ensures.rest
          (ap (λ (s : Sequences). s.lists) c.remove_node.ensures.removed) i;
      disabled = disabled_same _ _ _ c.self.invariant c.args.filter c.in_ok-queue.queue.now c.in_ok-queue.ensures.item.3.0
          c.in_ok-queue.ensures.value c.pop.new.self i;
    })
    ∙ ap (λ (q : Queueing). with_queue q c.args.filter (drop 1 (queue_of q c.args.filter))) c.self.view_is
