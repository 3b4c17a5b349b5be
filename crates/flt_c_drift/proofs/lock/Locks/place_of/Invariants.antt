use Rattle.std.proofs.Common.{◌≡◌, drop, map}
use Rattle.flt_c_drift.specs.Locks.{declared_of, place_of}
use Rattle.flt_c_drift.proofs.lock.Locks.place_of.Given as goal

abbrev pub invariant-loop-lock : goal.invariant-loop-lock
invariant-loop-lock l =
    place_of (map declared_of (drop l.lock-index l.self.declared.items)) l.tokens
    ≡ place_of (map declared_of l.self.declared.items) l.tokens
