-- States that mean one situation alone. This project's own definitions.
use Rattle.std.specs.Prelude.{Bool, true, false, ◌==◌, ◌||◌, ◌&&◌, map, if◌then◌else◌}
use Rattle.std.specs.List.{list_all}
use Rattle.flt_rules.specs.declared.place.Mode.{Mode}
use Rattle.flt_rules.specs.declared.place.Mode.TheVariants.{Irp, Fast}
use Rattle.flt_abs.specs.Sets.{StatusSet, ModeSet, DrainingSet, null_alone, held_alone, stale_alone, irp_alone}
use Rattle.flt_abs.specs.Sets.{fast_alone, no_alone, yes_alone, status_bits, mode_bits, draining_bits}
use Rattle.flt_abs.specs.State.{Status, Null, Held, Stale, Situation, State, state_of}

-- ---- from a situation

-- the set of one status
abbrev pub status_alone : Status → StatusSet
status_alone Null = null_alone
status_alone Held = held_alone
status_alone Stale = stale_alone

abbrev pub mode_alone : Mode → ModeSet
mode_alone Irp = irp_alone
mode_alone Fast = fast_alone

abbrev pub draining_alone : Bool → DrainingSet
draining_alone true = yes_alone
draining_alone false = no_alone

-- the state that means the situation and no other
abbrev pub alone : Situation → State
alone t = state_of (map status_alone t.contexts) (map status_alone t.operations) (mode_alone t.mode) (draining_alone t.draining) t.locks

-- ---- and back

-- whether just one status is in a set
abbrev pub is_one : StatusSet → Bool
is_one s = status_bits s == 1 || (status_bits s == 2 || status_bits s == 4)

abbrev pub is_one_mode : ModeSet → Bool
is_one_mode s = mode_bits s == 1 || mode_bits s == 2

abbrev pub is_one_draining : DrainingSet → Bool
is_one_draining s = draining_bits s == 1 || draining_bits s == 2

-- whether a state means just one situation
abbrev pub is_single : State → Bool
is_single x =
    list_all is_one x.contexts && (list_all is_one x.operations && (is_one_mode x.modes && is_one_draining x.draining))

-- the status in a set of one
abbrev pub status_in : StatusSet → Status
status_in s = if s.held then Held else (if s.stale then Stale else Null)

abbrev pub mode_in : ModeSet → Mode
mode_in s = if s.fast then Fast else Irp

-- the situation that such a state means
abbrev pub situation_in : State → Situation
situation_in x = record {
  contexts = map status_in x.contexts;
  operations = map status_in x.operations;
  mode = mode_in x.modes;
  draining = x.draining.yes;
  locks = x.locks;
}

-- ---- what a call gives

-- of NULL or held the one that a call gave; any other set as it is
abbrev pub one_of : Bool → StatusSet → StatusSet
one_of gives s = if status_bits s == 3 then (if gives then held_alone else null_alone) else s

-- the same of each set of a state
abbrev pub where_given : Bool → State → State
where_given gives x = state_of (map (one_of gives) x.contexts) (map (one_of gives) x.operations) x.modes x.draining x.locks
