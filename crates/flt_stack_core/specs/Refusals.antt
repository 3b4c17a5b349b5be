-- Why a teardown can't begin. This project's own rule.
use Rattle.std.specs.Prelude.{ℕ, ◌==◌, ◌||◌, not, Bool, false, if◌then◌else◌, List, [], ◌∷◌, length, Option, Some, None}
use Rattle.flt_stack_core.specs.declared.fault.DetachFault.{DetachFault}
use Rattle.flt_stack_core.specs.declared.fault.DetachFault.TheVariants as fault
use Rattle.flt_machine.specs.Situations.{Situation}
use Rattle.flt_model.specs.Program.{filter_of}
use Rattle.flt_model.specs.World.{is_attached, presence_at}
use Rattle.flt_tree.specs.declared.filter.Filter.{Filter}
use Rattle.flt_rules.specs.Limits.{max_entries}

-- some filter has the altitude
abbrev pub has_altitude : List Filter → ℕ → Bool
has_altitude [] altitude = false
has_altitude (f ∷ p) altitude = (f.altitude == altitude) || has_altitude p altitude

-- the filter at the altitude is attached: its teardown hasn't begun
abbrev pub is_attached_at : List Filter → Situation → ℕ → Bool
is_attached_at p b altitude = is_attached (presence_at b.store (filter_of p altitude))

-- why the teardown of the filter at an altitude can't begin, but for memory: the first reason, in this order
abbrev pub detach_fault : List Filter → Situation → ℕ → Option DetachFault
detach_fault p b altitude =
    if not (has_altitude p altitude) then Some fault.NoSuch
    else (if not (is_attached_at p b altitude) then Some fault.Already
    else (if length b.entries == max_entries then Some fault.Full else None))
