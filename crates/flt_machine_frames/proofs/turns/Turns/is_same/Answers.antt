use Rattle.std.proofs.Common.{◌≡◌}
use Rattle.std.specs.Cmp.Lexicographic.{pointwise}
use Rattle.flt_machine_frames.proofs.Parts.{turns_decide}
use Rattle.flt_machine_frames.proofs.turns.Turns.is_same.Goals as goal
use Rattle.flt_machine_frames.specs.Turns.{same_turn}

pub returns : goal.returns
returns c =
    turns_decide c.args.self.now c.args.other.now c.are_same.result
    (let is : c.are_same.result ≡ pointwise same_turn c.args.self.now c.args.other.now =
    rw (← c.as_slice.ensures, ← c.as_slice-2.ensures) c.are_same.ensures in is)
