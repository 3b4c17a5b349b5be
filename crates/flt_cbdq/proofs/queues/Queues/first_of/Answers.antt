use Rattle.std.proofs.Common.{◌∙◌, ℕ, List, ap, Some, None, find, option_copied}
use Rattle.ilist_core.specs.NodeLists.{nodes_of}
use Rattle.flt_cbdq.specs.declared.entry.Entry.{Entry}
use Rattle.flt_cbdq.specs.Kept.{entry_at}
use Rattle.flt_cbdq.specs.Queues.{Queueing, queue_of, is_of}
use Rattle.flt_cbdq.proofs.Entries.{found_where}
use Rattle.flt_cbdq.proofs.queues.Queues.first_of.Goals as goal

pub returns-in_err-node : goal.returns-in_err-node
returns-in_err-node c =
    ap option_copied c.from_residual-in_err-node.ensures
    ∙ found_where c.self.inside.entries.items c.self.inside.lists c.args.filter
    (is_of c.args.visits.now) c.in_ok-list.list c.in_ok-list.ensures.there.0 None
    (c.in_err-node.ensures ∙ ap (λ (es : List Entry). find (λ (n : ℕ). is_of c.args.visits.now (entry_at es n))
    (nodes_of c.self.inside.lists.lists c.in_ok-list.list)) c.as_slice.ensures.value)
    ∙ ap (λ (q : Queueing). find (is_of c.args.visits.now) (queue_of q c.args.filter)) c.self.view_is

pub returns : goal.returns
returns c =
    ap (λ (e : Entry). Some e) (c.entry_of.ensures ∙ ap (λ (es : List Entry). entry_at es c.in_ok-node.node) c.as_slice-2.ensures.value)
    ∙ found_where c.self.inside.entries.items c.self.inside.lists c.args.filter
    (is_of c.args.visits.now) c.in_ok-list.list c.in_ok-list.ensures.there.0 (Some c.in_ok-node.node)
    (c.in_ok-node.ensures ∙ ap (λ (es : List Entry). find (λ (n : ℕ). is_of c.args.visits.now (entry_at es n))
    (nodes_of c.self.inside.lists.lists c.in_ok-list.list)) c.as_slice.ensures.value)
    ∙ ap (λ (q : Queueing). find (is_of c.args.visits.now) (queue_of q c.args.filter)) c.self.view_is
