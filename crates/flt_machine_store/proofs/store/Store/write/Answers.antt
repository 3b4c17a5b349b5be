use Rattle.std.proofs.Common.{ap, ◌∙◌}
use Rattle.flt_ctx.specs.Contexts.{ContextTable}
use Rattle.flt_model.specs.Reads.{put_value}
use Rattle.flt_model.specs.World.{Store}
use Rattle.flt_machine_store.proofs.Carried.{with_contexts, write_carried}
use Rattle.flt_machine_store.specs.contracts.store.Store.{the_view}
use Rattle.flt_machine_store.proofs.store.Store.write.Goals as goal

pub returns : goal.returns
returns c =
    let s = the_view c.self.inside in
    ap (λ (t : ContextTable). with_contexts s t) c.set_value.ensures ∙ write_carried s c.self.inside.contexts c.args.context c.args.value
    ∙ ap (λ (r : Store). put_value r c.args.context c.args.value) c.self.view_is
