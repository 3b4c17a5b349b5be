-- The calls of a filter. Source: the FltXxx and FltCbdqXxx pages of the driver kit, and its lock routines.
use Rattle.std.specs.Prelude.{ℕ, Bool, true, false, Option, Some, None, ◌==◌, if◌then◌else◌}
use Rattle.flt_rules.specs.declared.call.Call.{Call}
use Rattle.flt_rules.specs.declared.call.Call.TheVariants.{ReleaseContext, AcquireLock, ReleaseLock}
use Rattle.flt_rules.specs.declared.call.LockKind.TheVariants.{Spin}
use Rattle.flt_rules.specs.declared.call.LockNumber.{LockNumber}
use Rattle.flt_rules.specs.declared.call.LockNumber.TheVariants.{L0, L1, L2, L3, L4, L5, L6, L7}

-- the calls that are legal where draining may be set (this project's own rule)
abbrev pub is_legal_in_draining : Call → Bool
is_legal_in_draining ReleaseContext = true
is_legal_in_draining (AcquireLock Spin) = true
is_legal_in_draining (ReleaseLock Spin) = true
is_legal_in_draining _ = false

-- the place of a lock among the declared ones, from 0
abbrev pub place_of : LockNumber → ℕ
place_of L0 = 0
place_of L1 = 1
place_of L2 = 2
place_of L3 = 3
place_of L4 = 4
place_of L5 = 5
place_of L6 = 6
place_of L7 = 7

-- the lock at a place; a filter has eight at most
abbrev pub lock_at : ℕ → Option LockNumber
lock_at n =
    if n == 0 then Some L0 else (if n == 1 then Some L1 else (if n == 2 then Some L2 else (if n == 3 then Some L3
    else (if n == 4 then Some L4 else (if n == 5 then Some L5 else (if n == 6 then Some L6 else (if n == 7 then Some L7
    else None)))))))
