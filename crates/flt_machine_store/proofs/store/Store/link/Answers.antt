use Rattle.std.proofs.Common.{◌≡◌, ℕ, Bool, true, false, List, is_some, get_or, ap, sym, subst, refl, ◌∙◌}
use Rattle.flt_ctx.specs.Contexts as ctx
use Rattle.flt_model.specs.World as world
use Rattle.flt_model.specs.declared.parts.Link.{Link}
use Rattle.flt_model.specs.World.{Store}
use Rattle.flt_machine_store.proofs.Carried.{with_contexts, after_link, link_made, closed_same, link_over_carried, cannot_there, open_there}
use Rattle.flt_machine_store.proofs.Reading.{linked_there}
use Rattle.flt_machine_store.specs.Changes.{after_change, CanBeLinked}
use Rattle.flt_machine_store.specs.declared.change.Change.TheVariants as change
use Rattle.flt_machine_store.specs.contracts.store.Store.{the_view}
use Rattle.flt_machine_store.proofs.store.Store.link.Goals as goal

-- what `set` makes of the contexts
linked : (c : goal.In_ok-set) →
    c.set.new.self ≡ after_link c.self.inside.contexts c.args.context c.key_at.result c.args.over (is_some c.args.old)
linked c =
    let s = the_view c.self.inside in
    let t = c.self.inside.contexts in
    let x = c.args.context in
    let k = c.key_at.result in
    let there : CanBeLinked s x c.args.filter c.args.key c.args.over =
    subst (λ (r : Store). CanBeLinked r x c.args.filter c.args.key c.args.over) (sym c.self.view_is) c.requires in
    let f_is : k.filter ≡ c.args.filter = ap (λ (l : Link). l.filter) c.key_at.ensures in
    let unclosed : ctx.is_closed t k.filter ≡ false = ap (λ (f : ℕ). ctx.is_closed t f) f_is
    ∙ open_there t.closed c.self.inside.presences.items c.args.filter c.self.invariant.closed there.attached in
    let can : ctx.cannot_link (ctx.context_at t x) ≡ false = cannot_there t.contexts x there.can in
    let is : ctx.linked_at t k ≡ c.args.over = sym (linked_there t.contexts k)
    ∙ ap (λ (l : Link). world.linked_at s l) c.key_at.ensures ∙ there.linked in
    link_made t c.set.new.self x k c.args.over (is_some c.args.old) is
    (λ none. (c.in_ok-set.ensures.done (unclosed, can) none).1)
    (λ y some. rw (← c.is_some.ensures) (c.in_ok-set.ensures.replaced y (unclosed, can) refl some).1)

pub invariant_of-self-2 : goal.invariant_of-self-2
invariant_of-self-2 c =
    let t = c.self.inside.contexts in
    record {
      filters = c.self.invariant.filters;
      locked = c.self.invariant.locked;
      closed = λ f. ap (λ (u : ctx.ContextTable). get_or u.closed f true) (linked c)
          ∙ ap (λ (l : List Bool). get_or l f true) (closed_same t c.args.context c.key_at.result c.args.over (is_some c.args.old))
          ∙ c.self.invariant.closed f;
      disabled = c.self.invariant.disabled;
      queued = c.self.invariant.queued;
    }

pub returns-clause-ok : goal.returns-clause-ok
returns-clause-ok c =
    let s = the_view c.self.inside in
    let x = c.args.context in
    let k = c.key_at.result in
    ap (λ (t : ctx.ContextTable). with_contexts s t) (linked c)
    ∙ link_over_carried s c.self.inside.contexts x k c.args.over c.args.old
    ∙ ap (λ (l : Link). after_change s (change.Link x l.filter l.key c.args.over c.args.old)) c.key_at.ensures
    ∙ ap (λ (r : Store). after_change r (change.Link x c.args.filter c.args.key c.args.over c.args.old)) c.self.view_is
