use Rattle.std.proofs.Common.{Bool, ap, ◌∙◌}
use Rattle.flt_ctx.specs.Contexts as ctx
use Rattle.flt_model.specs.Effects.{after_unlink}
use Rattle.flt_model.specs.World.{Store}
use Rattle.flt_machine_store.proofs.Carried.{with_contexts, unlink_carried}
use Rattle.flt_machine_store.specs.contracts.store.Store.{the_view}
use Rattle.flt_machine_store.proofs.store.Store.unlink.Goals as goal

pub returns : goal.returns
returns c =
    let s = the_view c.self.inside in
    let t = c.self.inside.contexts in
    let x = c.args.context in
    ap (λ (u : ctx.ContextTable). with_contexts s u)
    (c.unlink.ensures.unlinked ∙ ap (λ (wanted : Bool). ctx.after_unlink t x wanted) c.is_some.ensures)
    ∙ unlink_carried s t x c.args.old ∙ ap (λ (r : Store). after_unlink r x c.args.old) c.self.view_is
