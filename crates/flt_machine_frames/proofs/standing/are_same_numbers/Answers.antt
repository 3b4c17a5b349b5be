use Rattle.flt_machine_frames.proofs.Parts.{numbers_decide}
use Rattle.flt_machine_frames.proofs.standing.are_same_numbers.Goals as goal

pub returns : goal.returns
returns c = numbers_decide c.args.left.now c.args.right.now c.eq.result c.eq.ensures
