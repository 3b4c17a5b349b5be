use Rattle.std.proofs.Common.{◌∙◌, ap, sym, refl, Some, None, find}
use Rattle.ilist_core.specs.NodeLists.{Sequences, nodes_of}
use Rattle.flt_cbdq.specs.declared.entry.Entry.{Entry}
use Rattle.flt_cbdq.specs.Kept.{entry_at, is_with}
use Rattle.flt_cbdq.specs.Queues.{Queueing, queue_of, with_queue, has_visit, without_first}
use Rattle.flt_cbdq.proofs.Entries.{found_at, found_in, all_at, without_at, without_lists}
use Rattle.flt_cbdq.proofs.Noted.{first_noted, removed_kept, disabled_same}
use Rattle.flt_cbdq.proofs.queues.Queues.remove.Goals as goal

pub unlink-requires : goal.unlink-requires
unlink-requires c =
    let found = first_noted _ _ _ c.self.invariant c.args.filter c.in_ok-queue.queue.now c.in_ok-queue.ensures.item.3.0
    c.in_ok-queue.ensures.value c.args.visit (Some c.in_ok-node.node) c.in_ok-node.ensures in (
      c.args.filter,
      found_in (is_with c.self.inside.entries.items c.args.visit)
          (nodes_of c.self.inside.lists.lists c.args.filter) c.in_ok-node.node (sym found),
    )

pub invariant_of-self-2 : goal.invariant_of-self-2
invariant_of-self-2 c =
    let found = first_noted _ _ _ c.self.invariant c.args.filter c.in_ok-queue.queue.now c.in_ok-queue.ensures.item.3.0
    c.in_ok-queue.ensures.value c.args.visit (Some c.in_ok-node.node) c.in_ok-node.ensures in
    removed_kept _ _ _ c.self.invariant c.args.filter c.in_ok-queue.queue.now c.in_ok-queue.ensures.item.3.0
    c.in_ok-queue.ensures.value c.args.visit c.remove_node.new.self c.pop.new.self c.pop.ensures.here c.pop.ensures.others
    (without_lists c.self.inside.entries.items c.self.inside.lists c.args.filter c.args.visit c.in_ok-node.node c.unlink.new.self
    c.remove_node.new.self found c.unlink.ensures.cut (ap (λ (s : Sequences). s.lists) c.remove_node.ensures.removed))

pub returns-clause-first : goal.returns-clause-first
returns-clause-first c =
    let found = first_noted _ _ _ c.self.invariant c.args.filter c.in_ok-queue.queue.now c.in_ok-queue.ensures.item.3.0
    c.in_ok-queue.ensures.value c.args.visit (Some c.in_ok-node.node) c.in_ok-node.ensures in
    ap (λ (e : Entry). Some e) (c.entry_of.ensures ∙ ap (λ es. entry_at es c.in_ok-node.node) c.as_slice.ensures.value)
    ∙ found_at c.self.inside.entries.items c.self.inside.lists c.args.filter c.args.filter c.args.visit refl (Some c.in_ok-node.node) found
    ∙ ap (λ (q : Queueing). find (has_visit c.args.visit) (queue_of q c.args.filter)) c.self.view_is

pub returns-clause-rest : goal.returns-clause-rest
returns-clause-rest c =
    let found = first_noted _ _ _ c.self.invariant c.args.filter c.in_ok-queue.queue.now c.in_ok-queue.ensures.item.3.0
    c.in_ok-queue.ensures.value c.args.visit (Some c.in_ok-node.node) c.in_ok-node.ensures in
    (λ i. record {
      queues = without_at c.self.inside.entries.items c.self.inside.lists c.args.filter c.args.filter c.args.visit refl
          c.in_ok-node.node c.unlink.new.self c.remove_node.new.self found c.unlink.ensures.cut
          (ap (λ (s : Sequences). s.lists) c.remove_node.ensures.removed) i;
      disabled = disabled_same _ _ _ c.self.invariant c.args.filter c.in_ok-queue.queue.now c.in_ok-queue.ensures.item.3.0
          c.in_ok-queue.ensures.value c.pop.new.self i;
    })
    ∙ ap (λ (q : Queueing). with_queue q c.args.filter (without_first (has_visit c.args.visit) (queue_of q c.args.filter))) c.self.view_is

pub returns-in_err-node-clause-first : goal.returns-in_err-node-clause-first
returns-in_err-node-clause-first c =
    let none = first_noted _ _ _ c.self.invariant c.args.filter c.in_ok-queue.queue.now c.in_ok-queue.ensures.item.3.0
    c.in_ok-queue.ensures.value c.args.visit None c.in_err-node.ensures in
    c.from_residual-in_err-node.ensures
    ∙ found_at c.self.inside.entries.items c.self.inside.lists c.args.filter c.args.filter c.args.visit refl None none
    ∙ ap (λ (q : Queueing). find (has_visit c.args.visit) (queue_of q c.args.filter)) c.self.view_is

pub returns-in_err-node-clause-rest : goal.returns-in_err-node-clause-rest
returns-in_err-node-clause-rest c =
    let none = first_noted _ _ _ c.self.invariant c.args.filter c.in_ok-queue.queue.now c.in_ok-queue.ensures.item.3.0
    c.in_ok-queue.ensures.value c.args.visit None c.in_err-node.ensures in
    (λ i. record {
      queues = all_at c.self.inside.entries.items c.self.inside.lists c.args.filter c.args.filter c.args.visit refl none i;
      disabled = disabled_same _ _ _ c.self.invariant c.args.filter c.in_ok-queue.queue.now c.in_ok-queue.ensures.item.3.0
          c.in_ok-queue.ensures.value c.in_ok-queue.queue.now.nodes i;
    })
    ∙ ap (λ (q : Queueing). with_queue q c.args.filter (without_first (has_visit c.args.visit) (queue_of q c.args.filter))) c.self.view_is
