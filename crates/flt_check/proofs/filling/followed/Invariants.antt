use Rattle.std.proofs.Common.{◌≡◌, length, drop}
use Rattle.flt_check.specs.Full.{followed}
use Rattle.flt_check.proofs.filling.followed.Given as goal

abbrev pub invariant-loop-from : goal.invariant-loop-from
invariant-loop-from l =
    followed l.graph l.callback (length l.before) l.from (drop l.from l.before) ≡ followed l.graph l.callback (length l.before) 0 l.before
