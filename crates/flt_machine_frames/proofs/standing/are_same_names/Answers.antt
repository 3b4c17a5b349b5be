use Rattle.flt_machine_frames.proofs.Parts.{options_decide}
use Rattle.flt_machine_frames.proofs.standing.are_same_names.Goals as goal

pub returns : goal.returns
returns c = options_decide c.args.left.now c.args.right.now c.eq.result c.eq.ensures
