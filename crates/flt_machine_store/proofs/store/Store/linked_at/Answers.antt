use Rattle.std.proofs.Common.{ap, sym, ◌∙◌}
use Rattle.flt_model.specs.World as spec
use Rattle.flt_model.specs.declared.parts.Link.{Link}
use Rattle.flt_model.specs.World.{Store}
use Rattle.flt_machine_store.proofs.Reading.{linked_there}
use Rattle.flt_machine_store.specs.contracts.store.Store.{the_view}
use Rattle.flt_machine_store.proofs.store.Store.linked_at.Goals as goal

pub returns : goal.returns
returns c =
    c.linked_at.ensures.found ∙ sym (linked_there c.self.inside.contexts.contexts c.key_at.result) ∙
    ap (λ (l : Link). spec.linked_at (the_view c.self.inside) l) c.key_at.ensures ∙
    ap (λ (s : Store). spec.linked_at s (record { filter = c.args.filter; key = c.args.key })) c.self.view_is
