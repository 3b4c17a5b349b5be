-- The states in which callbacks are entered. Source: the driver kit's pages on pre- and postoperation callback routines,
-- on CompleteCanceledIo and on work item routines.
use Rattle.std.specs.Prelude.{if◌then◌else◌, List, [], ◌∷◌}
use Rattle.flt_rules.specs.Place.{is_always_irp}
use Rattle.flt_rules.specs.declared.place.Operation.{Operation}
use Rattle.flt_rules.specs.declared.place.Place.{Place}
use Rattle.flt_rules.specs.declared.place.Place.TheVariants.{Pre, Post, Generic}
use Rattle.flt_abs.specs.Sets.{StatusSet, ModeSet, DrainingSet, null_alone, held_alone, null_or_held, irp_alone}
use Rattle.flt_abs.specs.Sets.{fast_alone, no_alone, yes_alone, either_mode, either_draining}
use Rattle.flt_abs.specs.State.{State, state_of}

-- the context that a callback is given: none on the way down, elsewhere perhaps one
abbrev pub entry_arg : Place → StatusSet
entry_arg (Pre o) = null_alone
entry_arg _ = null_or_held

abbrev pub entry_contexts : Place → List StatusSet
entry_contexts place =
    null_alone ∷ null_alone ∷ null_alone ∷ null_alone ∷ null_alone ∷ null_alone ∷ null_alone ∷ null_alone ∷ entry_arg place ∷ []

-- the operation that a callback is given: none for a generic work item
abbrev pub entry_data : Place → StatusSet
entry_data Generic = null_alone
entry_data _ = held_alone

abbrev pub entry_operations : Place → List StatusSet
entry_operations place = null_alone ∷ null_alone ∷ null_alone ∷ null_alone ∷ entry_data place ∷ []

-- the modes in which an operation comes
abbrev pub operation_modes : Operation → ModeSet
operation_modes kind = if is_always_irp kind then irp_alone else either_mode irp_alone fast_alone

-- a callback of an operation is entered in each mode in which that comes, others for an I/O request packet
abbrev pub entry_modes : Place → ModeSet
entry_modes (Pre kind) = operation_modes kind
entry_modes (Post kind) = operation_modes kind
entry_modes _ = irp_alone

-- a post callback may be called for draining
abbrev pub entry_draining : Place → DrainingSet
entry_draining (Post o) = either_draining no_alone yes_alone
entry_draining _ = no_alone

-- numbers aren't traced, and no lock is held
abbrev pub entry : Place → State
entry place = state_of (entry_contexts place) (entry_operations place) (entry_modes place) (entry_draining place) []
