use Rattle.std.proofs.Common.{ap, ◌∙◌}
use Rattle.flt_ctx.specs.Contexts.{ContextTable}
use Rattle.flt_model.specs.World.{Store, drop_reference}
use Rattle.flt_machine_store.proofs.Carried.{with_contexts, drop_carried}
use Rattle.flt_machine_store.specs.contracts.store.Store.{the_view}
use Rattle.flt_machine_store.proofs.store.Store.drop_reference.Goals as goal

pub returns : goal.returns
returns c =
    let s = the_view c.self.inside in
    ap (λ (t : ContextTable). with_contexts s t) c.release.ensures.dropped ∙ drop_carried s c.self.inside.contexts c.args.context
    ∙ ap (λ (r : Store). drop_reference r c.args.context) c.self.view_is
