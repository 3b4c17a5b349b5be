use Rattle.std.proofs.Common.{◌∙◌}
use Rattle.flt_rules.specs.declared.place.Place.TheVariants as place
use Rattle.flt_model.specs.Program.{callbacks_at, is_pre_of}
use Rattle.flt_machine_frames.proofs.Filters.{lowered_at, pre_agrees, first_agrees, body_agrees}
use Rattle.flt_machine_frames.proofs.loaded.Loaded.pre.Goals as goal

pub returns-clause-number : goal.returns-clause-number
returns-clause-number c = λ p made.
    c.callback_for.ensures
    ∙ first_agrees (place.Pre c.args.kind) (is_pre_of c.args.kind) (pre_agrees c.args.kind) _ _ _
    (lowered_at p c.args.self.now.graphs c.args.filter made.graphs).callbacks

pub returns-clause-body : goal.returns-clause-body
returns-clause-body c = λ p made.
    body_agrees (is_pre_of c.args.kind) (callbacks_at p c.args.filter) _ (c.callback_for.ensures
    ∙ first_agrees (place.Pre c.args.kind) (is_pre_of c.args.kind) (pre_agrees c.args.kind) _ _ _
    (lowered_at p c.args.self.now.graphs c.args.filter made.graphs).callbacks)
