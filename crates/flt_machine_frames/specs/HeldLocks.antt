-- The locks that an activation holds, in eight places. This project's own representation.
use Rattle.flt_rules.specs.declared.call.LockNumber.TheVariants.{L0}
use Rattle.flt_rules.specs.declared.held.Access.TheVariants.{Exclusive}
use Rattle.flt_rules.specs.declared.held.HeldLock.{HeldLock}

-- what stands in an unused place
abbrev pub no_lock : HeldLock
no_lock = record { lock = L0; access = Exclusive }
