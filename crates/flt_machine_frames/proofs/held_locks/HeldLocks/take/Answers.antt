use Rattle.std.proofs.Common.{◌<◌, List, length, ap, arith}
use Rattle.flt_rules.specs.declared.held.HeldLock.{HeldLock}
use Rattle.flt_machine_frames.proofs.Padding.{one_after}
use Rattle.flt_machine_frames.proofs.held_locks.HeldLocks.take.Goals as goal
use Rattle.flt_machine_frames.specs.HeldLocks.{no_lock}

pub invariant_of-self : goal.invariant_of-self
invariant_of-self c =
    let long = ap (λ (l : List HeldLock). length l) c.self.view_is in
    let counted = c.self.invariant.counted in
    let less : c.self.inside.used < 8 = omega arith in
    (one_after HeldLock 8 no_lock c.args.lock c.self.inside.locks c.self.inside.used c.self.invariant less).0
