use Rattle.std.proofs.Common.{◌∙◌}
use Rattle.flt_rules.specs.declared.place.Place.TheVariants as place
use Rattle.flt_model.specs.Program.{is_pre_of}
use Rattle.flt_machine_frames.proofs.Filters.{lowered_at, pre_agrees, any_agrees}
use Rattle.flt_machine_frames.proofs.loaded.Loaded.has_pre.Goals as goal

pub returns : goal.returns
returns c = λ p made.
    c.has.ensures ∙ any_agrees (place.Pre c.args.kind) (is_pre_of c.args.kind) (pre_agrees c.args.kind) _ _ _
    (lowered_at p c.args.self.now.graphs c.args.filter made.graphs).callbacks
