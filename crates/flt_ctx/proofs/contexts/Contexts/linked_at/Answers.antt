use Rattle.std.proofs.Common.{◌≡◌, arith, ℕ, ◌+◌, ◌∙◌, ap, find, length, Some}
use Rattle.ilist_core.specs.NodeLists.{nodes_of}
use Rattle.flt_ctx.specs.Contexts.{ContextTable, is_key, linked_at}
use Rattle.flt_ctx.specs.Rows.{row_at, key_of, context_of}
use Rattle.flt_ctx.proofs.Walks.{linked_is, linked_none, linked_alone}
use Rattle.flt_ctx.proofs.contexts.Contexts.linked_at.Goals as goal

none_found : goal.returns-in_err-node-clause-found
none_found c =
    let count : c.len.result ≡ length c.self.inside.closed.items = omega arith in
    let list = c.in_ok-list.ensures.there.0 ∙ (λ i. count i + c.place_of.ensures.place i) in
    c.from_residual-in_err-node.ensures
    ∙ linked_none c.self.inside.rows.items
    (length c.self.inside.closed.items) c.self.inside.lists c.self.inside.contexts.items c.self.invariant.linked c.args.key
    (c.in_err-node.ensures.first ∙ (λ i. find
    (λ node. is_key c.args.key (key_of (row_at (c.as_slice.ensures.value i)
    (context_of (c.as_slice-2.ensures.value i) node)).link)) (nodes_of c.self.inside.lists.lists (list i))))
    ∙ ap (λ (h : ContextTable). linked_at h c.args.key) c.self.view_is

pub returns-in_err-node-clause-found : goal.returns-in_err-node-clause-found
returns-in_err-node-clause-found c = none_found c

pub returns-in_err-node-clause-alone : goal.returns-in_err-node-clause-alone
returns-in_err-node-clause-alone c = λ x is.
    none_found c ∙ linked_alone c.self.inside.rows.items
    (length c.self.inside.closed.items) c.self.inside.lists c.self.inside.contexts.items c.self.invariant.linked c.args.key
    c.self.inside.closed.items c.args.self.now c.self.view_is x is

found : goal.returns-clause-found
found c =
    let count : c.len.result ≡ length c.self.inside.closed.items = omega arith in
    let list = c.in_ok-list.ensures.there.0 ∙ (λ i. count i + c.place_of.ensures.place i) in
    ap (λ (x : ℕ). Some x) (c.context_of.ensures ∙ ap (λ xs. context_of xs c.in_ok-node.node) c.as_slice-3.ensures.value)
    ∙ linked_is c.self.inside.rows.items
    (length c.self.inside.closed.items) c.self.inside.lists c.self.inside.contexts.items c.self.invariant.linked c.args.key
    c.in_ok-node.node
    (c.in_ok-node.ensures.first ∙ (λ i. find
    (λ node. is_key c.args.key (key_of (row_at (c.as_slice.ensures.value i)
    (context_of (c.as_slice-2.ensures.value i) node)).link)) (nodes_of c.self.inside.lists.lists (list i))))
    ∙ ap (λ (h : ContextTable). linked_at h c.args.key) c.self.view_is

pub returns-clause-found : goal.returns-clause-found
returns-clause-found c = found c

pub returns-clause-alone : goal.returns-clause-alone
returns-clause-alone c = λ x is.
    found c ∙ linked_alone c.self.inside.rows.items
    (length c.self.inside.closed.items) c.self.inside.lists c.self.inside.contexts.items c.self.invariant.linked c.args.key
    c.self.inside.closed.items c.args.self.now c.self.view_is x is
