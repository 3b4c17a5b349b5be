use Rattle.std.proofs.Common.{◌≡◌, ◌≢◌, ◌<◌, ℕ, ◌∙◌, ap, sym, None, Some, Option, length, set, arith, refl}
use Rattle.std.proofs.lemmas.List.{get_or_read, length-map, length-set}
use Rattle.std.proofs.lemmas.Option.{none-some}
use Rattle.flt_ctx.specs.Contexts.{ContextTable, Context, context_at, with_link}
use Rattle.flt_ctx.specs.declared.key.Key.{Key}
use Rattle.flt_ctx.specs.declared.links.Link.{Link}
use Rattle.flt_ctx.specs.declared.links.Row.{Row}
use Rattle.flt_ctx.specs.Rows.{no_row, row_at, as_context, key_of}
use Rattle.flt_ctx.proofs.Rows.{context_is, relinked}
use Rattle.flt_ctx.proofs.Relinked.{AreLinked-moved, named_length, filter_named, target_named, others_named, row_gone, row_given, row_other}
use Rattle.flt_ctx.proofs.Indexed.{AreIndexed-moved}
use Rattle.flt_ctx.proofs.contexts.Contexts.move_link.Goals as goal

no_key : (link : Option Link) → key_of link ≡ None → link ≡ None
no_key None is = refl
no_key (Some l) is = absurd (none-some l.key (sym is))

pub invariant_of-self : goal.invariant_of-self
invariant_of-self c =
    let within : c.args.from < length c.self.inside.rows.items = omega arith in
    let at = sym (ap (λ (r : Row). r.link) (get_or_read c.self.inside.rows.items c.args.from _ within c.index.ensures no_row))
    ∙ c.in-Some.is in
    let to_within : c.args.to < length c.self.inside.rows.items =
    omega (
      arith,
      c.requires.there,
      ap (λ (h : ContextTable). length h.contexts) (sym c.self.view_is)
          ∙ length-map c.self.inside.rows.items as_context,
    ) in
    let free = no_key _ (ap (λ (d : Context). d.link)
    (sym (context_is c.self.inside.rows.items c.self.inside.closed.items c.args.self.now c.self.view_is c.args.to)) ∙ c.requires.free) in
    let differ : c.args.from ≢ c.args.to =
    λ same. none-some c.in-Some.link (sym free ∙ ap (λ (y : ℕ). (row_at c.self.inside.rows.items y).link) (sym same) ∙ at) in
    let p = c.self.invariant.linked.placed c.args.from c.in-Some.link at in
    record {
      linked =
          AreLinked-moved c.self.inside.rows.items _ _ c.self.inside.contexts.items c.self.invariant.linked c.args.from
          c.in-Some.link at c.args.to free _ _
          (ap (λ (r : Row). r.link) (row_gone c.self.inside.rows.items c.args.from c.args.to _ _ within to_within differ))
          (ap (λ (r : Row). r.link) (row_given c.self.inside.rows.items c.args.from c.args.to _ _ within to_within differ))
          (λ y away off. ap (λ (r : Row). r.link)
          (row_other c.self.inside.rows.items c.args.from c.args.to _ _ within to_within differ y away off))
          (named_length c.self.inside.contexts.items _ _ _ _ c.args.to p.target_within p.filter_within p.differ
          c.put_context.ensures c.put_context-in-Some.ensures)
          (target_named c.self.inside.contexts.items _ _ _ _ c.args.to p.target_within p.filter_within p.differ
          c.put_context.ensures c.put_context-in-Some.ensures)
          (filter_named c.self.inside.contexts.items _ _ _ _ c.args.to p.target_within p.filter_within p.differ
          c.put_context.ensures c.put_context-in-Some.ensures)
          (others_named c.self.inside.contexts.items _ _ _ _ c.args.to p.target_within p.filter_within p.differ
          c.put_context.ensures c.put_context-in-Some.ensures);
      used = c.self.invariant.used;
      indexed =
          AreIndexed-moved c.self.inside.rows.items _ c.self.invariant.indexed _ c.args.from c.in-Some.link at c.args.to free
          (ap (λ (r : Row). r.link) (row_gone c.self.inside.rows.items c.args.from c.args.to _ _ within to_within differ))
          (ap (λ (r : Row). r.link) (row_given c.self.inside.rows.items c.args.from c.args.to _ _ within to_within differ))
          (λ y away off. ap (λ (r : Row). r.link)
          (row_other c.self.inside.rows.items c.args.from c.args.to _ _ within to_within differ y away off));
    }

pub returns-in-Some : goal.returns-in-Some
returns-in-Some c =
    let within : c.args.from < length c.self.inside.rows.items = omega arith in
    let at = sym (ap (λ (r : Row). r.link) (get_or_read c.self.inside.rows.items c.args.from _ within c.index.ensures no_row))
    ∙ c.in-Some.is in
    let to_within : c.args.to < length c.self.inside.rows.items =
    omega (
      arith,
      c.requires.there,
      ap (λ (h : ContextTable). length h.contexts) (sym c.self.view_is)
          ∙ length-map c.self.inside.rows.items as_context,
    ) in
    let key : (context_at c.args.self.now c.args.from).link ≡ Some c.in-Some.link.key =
    ap (λ (d : Context). d.link) (context_is c.self.inside.rows.items c.self.inside.closed.items c.args.self.now c.self.view_is
    c.args.from) ∙ ap key_of at in
    let one = relinked c.self.inside.rows.items c.self.inside.closed.items c.args.self.now c.self.view_is c.args.from
    c.index_mut.result.now (get_or_read c.self.inside.rows.items c.args.from _ within c.index_mut.ensures.value no_row) None in
    let inside : c.args.to < length (set c.self.inside.rows.items c.args.from (record c.index_mut.result.now { link = None })) =
    omega (arith, to_within, length-set c.self.inside.rows.items c.args.from (record c.index_mut.result.now { link = None })) in
    relinked (set c.self.inside.rows.items c.args.from (record c.index_mut.result.now { link = None })) c.self.inside.closed.items
    (with_link c.args.self.now c.args.from None) one c.args.to c.index_mut-in-Some.result.now
    (get_or_read _ c.args.to _ inside c.index_mut-in-Some.ensures.value no_row) (Some c.in-Some.link)
    ∙ ap (λ (k : Option Key). with_link (with_link c.args.self.now c.args.from None) c.args.to k) (sym key)
