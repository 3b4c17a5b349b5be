use Rattle.std.proofs.Common.{◌<◌, arith}
use Rattle.flt_machine_frames.proofs.Padding.{one_more}
use Rattle.flt_machine_frames.proofs.turns.Turns.begin.Goals as goal

pub invariant_of-self-then-self-lt-MAX_REPEATS : goal.invariant_of-self-then-self-lt-MAX_REPEATS
invariant_of-self-then-self-lt-MAX_REPEATS c =
    let less : c.self.inside.used < 4 = omega arith in
    rw c.with_first-self-inside.ensures (one_more c.args.turn c.self.inside.turns c.self.inside.used c.self.invariant less).0
