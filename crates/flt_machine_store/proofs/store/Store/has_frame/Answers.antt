use Rattle.std.proofs.Common.{Option, ℕ, is_some, ap, ◌∙◌}
use Rattle.flt_model.specs.Moves.{has_frame}
use Rattle.flt_machine_store.proofs.Emptied.{some_position}
use Rattle.flt_machine_store.proofs.store.Store.has_frame.Goals as goal

pub returns : goal.returns
returns c =
    c.is_some.ensures ∙ ap (λ (o : Option ℕ). is_some o) c.least_frame.ensures ∙
    some_position (has_frame c.args.filter) c.args.self.now.routes
