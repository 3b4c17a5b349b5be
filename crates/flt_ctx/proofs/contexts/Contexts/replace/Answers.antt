use Rattle.std.proofs.Common.{◌≡◌, ◌∙◌, ap, sym, if◌then◌else◌, None}
use Rattle.flt_ctx.specs.Contexts.{ContextTable, context_at, with_link, add_reference, drop_reference}
use Rattle.flt_ctx.proofs.Algebra.{moved_count, replaced, old_references, linked_there, linked_apart}
use Rattle.flt_ctx.proofs.contexts.Contexts.replace.Goals as goal

pub returns-then-wanted-clause-linked : goal.returns-then-wanted-clause-linked
returns-then-wanted-clause-linked c =
    let k = (context_at c.args.self.now c.args.from).link in
    c.reference.ensures
    ∙ ap (λ (h : ContextTable). add_reference h c.args.to) c.move_link.ensures
    ∙ moved_count c.args.self.now c.args.to c.args.from k c.requires.there
    ∙ (λ i. with_link (add_reference (if (sym c.if-wanted.true i) then with_link c.args.self.now c.args.from None
    else drop_reference (with_link c.args.self.now c.args.from None) c.args.from) c.args.to) c.args.to k)

pub returns-else-wanted-clause-linked : goal.returns-else-wanted-clause-linked
returns-else-wanted-clause-linked c =
    let k = (context_at c.args.self.now c.args.from).link in
    c.release.ensures.dropped
    ∙ ap (λ (h : ContextTable). drop_reference h c.args.from)
    (c.reference.ensures ∙ ap (λ (h : ContextTable). add_reference h c.args.to) c.move_link.ensures)
    ∙ replaced c.args.self.now c.args.to c.args.from k
    (linked_apart c.args.self.now c.args.to c.args.from c.requires.free c.requires.linked) c.requires.there
    ∙ (λ i. with_link (add_reference (if (sym c.if-wanted.false i) then with_link c.args.self.now c.args.from None
    else drop_reference (with_link c.args.self.now c.args.from None) c.args.from) c.args.to) c.args.to k)

pub returns-else-wanted-clause-released : goal.returns-else-wanted-clause-released
returns-else-wanted-clause-released c =
    let k = (context_at c.args.self.now c.args.from).link in
    let same : (context_at c.reference.new.self c.args.from).references ≡ (context_at c.args.self.now c.args.from).references =
    ap (λ (h : ContextTable). (context_at h c.args.from).references)
    (c.reference.ensures ∙ ap (λ (h : ContextTable). add_reference h c.args.to) c.move_link.ensures)
    ∙ old_references c.args.self.now c.args.to c.args.from k
    (linked_apart c.args.self.now c.args.to c.args.from c.requires.free c.requires.linked)
    (linked_there c.args.self.now c.args.from c.requires.linked) in
    (λ freed. (c.if-wanted.false, sym same ∙ c.release.ensures.freed.0 freed), λ both. c.release.ensures.freed.1 (same ∙ both.1))
