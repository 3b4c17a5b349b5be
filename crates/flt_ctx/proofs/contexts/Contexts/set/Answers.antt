use Rattle.std.proofs.Common.{◌≡◌, ◌↔◌, ℕ, ◌∙◌, ap, sym, subst, false, Some, Option, IsSome, refl}
use Rattle.std.proofs.lemmas.Option.{same_Some}
use Rattle.flt_ctx.specs.declared.answers.Release.TheVariants.{Freed}
use Rattle.flt_ctx.specs.declared.key.Key.{Key}
use Rattle.flt_ctx.specs.Contexts.{ContextTable, context_at, with_link, add_reference, after_unlink, put_link}
use Rattle.flt_ctx.proofs.Algebra.{counted_link, found_key}
use Rattle.flt_ctx.proofs.contexts.Contexts.set.Goals as goal

pub replace-release-requires-clause-linked : goal.replace-release-requires-clause-linked
replace-release-requires-clause-linked c =
    subst (λ (o : Option Key). IsSome o)
    (sym (found_key c.args.self.now c.args.key c.in-Some.other (sym c.linked_at.ensures.found ∙ c.in-Some.is))) refl

pub returns-in_ok-put_link-in-None-clause-done : goal.returns-in_ok-put_link-in-None-clause-done
returns-in_ok-put_link-in-None-clause-done c = λ can none. (
  refl,
  c.reference.ensures
      ∙ ap (λ (h : ContextTable). add_reference h c.args.context) c.in_ok-put_link-in-None.ensures.ok
      ∙ counted_link c.args.self.now c.args.context (Some c.args.key) (c.cannot_link.ensures.there c.if-cannot_link.false),
)

pub returns-else-keep-clause-replaced : goal.returns-else-keep-clause-replaced
returns-else-keep-clause-replaced c = λ x can keep is.
    let same : c.in-Some.other ≡ x = same_Some c.in-Some.other x (sym c.in-Some.is ∙ c.linked_at.ensures.found ∙ is) in (
      (
        same,
        subst (λ (y : ℕ). (c.replace-release.result ≡ Freed) ↔
            ((c.args.want_old ≡ false) × ((context_at c.args.self.now y).references ≡ 1))) same c.replace-release.ensures.released,
      ),
      c.replace-release.ensures.linked
          ∙ ap (λ (k : Option Key). with_link
          (add_reference (after_unlink c.args.self.now c.in-Some.other c.args.want_old) c.args.context) c.args.context k)
          (found_key c.args.self.now c.args.key c.in-Some.other (sym c.linked_at.ensures.found ∙ c.in-Some.is))
          ∙ ap (λ (y : ℕ). put_link (after_unlink c.args.self.now y c.args.want_old) c.args.context c.args.key) same,
    )
