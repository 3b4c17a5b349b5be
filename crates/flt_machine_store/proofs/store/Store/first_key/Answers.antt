use Rattle.std.proofs.Common.{is_some, ap, sym, ◌∙◌}
use Rattle.std.specs.List.{list_any}
use Rattle.flt_model.specs.Moves as moves
use Rattle.flt_model.specs.World as spec
use Rattle.flt_model.specs.World.{Store, Context}
use Rattle.flt_machine_store.proofs.Linked.{first_linked, first_least, none_linked}
use Rattle.flt_machine_store.proofs.store.Store.first_key.Goals as goal

pub returns-in_err-key-clause-none : goal.returns-in_err-key-clause-none
returns-in_err-key-clause-none c =
    rw c.from_residual.ensures
    (ap (λ (s : Store). list_any (λ (x : Context). moves.is_linked_by c.args.filter x.link) s.contexts) (sym c.self.view_is) ∙
    none_linked c.args.filter c.self.inside.contexts.contexts c.in_err-key.ensures.none)

pub returns-clause-linked : goal.returns-clause-linked
returns-clause-linked c =
    ap (λ (s : Store). is_some (spec.linked_at s (record { filter = c.args.filter; key = c.key_in.result }))) (sym c.self.view_is) ∙
    first_linked c.self.inside.contexts c.args.filter c.in_ok-key.key c.key_in.result c.key_in.ensures c.in_ok-key.ensures.linked.0
    c.in_ok-key.ensures.linked.1

pub returns-clause-least : goal.returns-clause-least
returns-clause-least c = λ other there.
    first_least c.self.inside.contexts c.args.filter c.in_ok-key.key.target c.key_in.result c.key_in.ensures c.in_ok-key.ensures.least other
    (ap (λ (s : Store). is_some (spec.linked_at s (record { filter = c.args.filter; key = other }))) c.self.view_is ∙ there)
