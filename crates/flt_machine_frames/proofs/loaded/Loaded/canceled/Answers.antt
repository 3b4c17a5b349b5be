use Rattle.std.proofs.Common.{◌∙◌}
use Rattle.flt_rules.specs.declared.place.Place.TheVariants as place
use Rattle.flt_model.specs.Program.{callbacks_at, is_canceled}
use Rattle.flt_machine_frames.proofs.Filters.{lowered_at, canceled_agrees, first_agrees, body_agrees}
use Rattle.flt_machine_frames.proofs.loaded.Loaded.canceled.Goals as goal

pub returns-clause-number : goal.returns-clause-number
returns-clause-number c = λ p made.
    c.callback_for.ensures
    ∙ first_agrees place.Canceled is_canceled canceled_agrees _ _ _
    (lowered_at p c.args.self.now.graphs c.args.filter made.graphs).callbacks

pub returns-clause-body : goal.returns-clause-body
returns-clause-body c = λ p made.
    body_agrees is_canceled (callbacks_at p c.args.filter) _ (c.callback_for.ensures
    ∙ first_agrees place.Canceled is_canceled canceled_agrees _ _ _
    (lowered_at p c.args.self.now.graphs c.args.filter made.graphs).callbacks)
