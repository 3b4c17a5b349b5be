use Rattle.std.proofs.Common.{◌∙◌}
use Rattle.flt_machine_store.proofs.Emptied.{link_found}
use Rattle.flt_machine_store.proofs.store.Store.has_link.Goals as goal

pub returns : goal.returns
returns c =
    c.is_some.ensures ∙ link_found c.args.self.now c.args.filter c.first_key.result c.first_key.ensures.linked c.first_key.ensures.none
