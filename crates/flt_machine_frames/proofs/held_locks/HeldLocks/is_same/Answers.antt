use Rattle.std.proofs.Common.{◌≡◌}
use Rattle.std.specs.Cmp.Lexicographic.{pointwise}
use Rattle.flt_rules.specs.Held.{same_held}
use Rattle.flt_machine_frames.proofs.Parts.{locks_decide}
use Rattle.flt_machine_frames.proofs.held_locks.HeldLocks.is_same.Goals as goal

pub returns : goal.returns
returns c =
    locks_decide c.args.self.now c.args.other.now c.are_same.result
    (let is : c.are_same.result ≡ pointwise same_held c.args.self.now c.args.other.now =
    rw (← c.as_slice.ensures.value, ← c.as_slice-2.ensures.value) c.are_same.ensures in is)
