-- That the order of locks is needed: two callbacks that take two locks crosswise wait for each other for ever; where both take them in one
-- order, the one that has the first lock can go on.
use Rattle.std.specs.Prelude.{◌≡◌, refl, Bool, true, false, not, ◌&&◌, List, [], ◌∷◌, ◌++◌, Some, None, is_some, option_map}
use Rattle.flt_rules.specs.declared.call.LockKind.TheVariants.{Push}
use Rattle.flt_rules.specs.declared.call.LockNumber.{LockNumber}
use Rattle.flt_rules.specs.declared.call.LockNumber.TheVariants.{L0, L1}
use Rattle.flt_rules.specs.declared.place.Mode.TheVariants.{Irp}
use Rattle.flt_rules.specs.declared.place.Operation.TheVariants.{Read, Write}
use Rattle.flt_tree.specs.declared.filter.Filter.{Filter}
use Rattle.flt_tree.specs.declared.filter.FallibleCall.TheVariants as fallible
use Rattle.flt_tree.specs.declared.filter.Head.TheVariants as head
use Rattle.flt_tree.specs.declared.filter.PlainCall.TheVariants as plain
use Rattle.flt_tree.specs.declared.filter.Statement.{Statement}
use Rattle.flt_tree.specs.declared.filter.Status.TheVariants as status
use Rattle.flt_model.specs.declared.moves.Move.TheVariants as moves
use Rattle.flt_model.specs.Moves.{is_done}
use Rattle.flt_model.specs.Runs.{Moment, run, next}
use Rattle.flt_model.specs.Steps.{Transition, Make, Board}
use Rattle.flt_model.specs.World.{activation_at}
use Rattle.flt_model.specs.WorkedParts.{computed, call, return, if_call, filter, on}
use Rattle.flt_model.specs.WorkedBreaks.{no_callback}
use Rattle.flt_model.specs.WorkedLocks.{pushing}
use Rattle.flt_sound.specs.Progress.{can_go_on}

-- one lock and then another, and both given up
abbrev pub both_locks : LockNumber → LockNumber → List Statement
both_locks first second =
    call (plain.AcquireLock Push first) ∷ call (plain.AcquireLock Push second) ∷ call (plain.ReleaseLock Push second)
    ∷ call (plain.ReleaseLock Push first) ∷ no_callback ∷ []

-- reads take the first lock first, writes the second
abbrev pub crossed : List Filter
crossed = pushing (both_locks L0 L1) (both_locks L1 L0)

-- both take the first lock first
abbrev pub straight : List Filter
straight = pushing (both_locks L0 L1) (both_locks L0 L1)

-- a read and a write come to their callbacks, and the read takes its first lock
abbrev pub one_lock : List Transition
one_lock =
    Make (moves.Arrive Read Irp 0) ∷ Make (moves.Arrive Write Irp 0) ∷ Make (moves.Pre 0) ∷ Make (moves.Pre 1) ∷ Board 0 true ∷ []

-- and the write its own
abbrev pub two_locks : List Transition
two_locks =
    Make (moves.Arrive Read Irp 0) ∷ Make (moves.Arrive Write Irp 0) ∷ Make (moves.Pre 0) ∷ Make (moves.Pre 1) ∷ Board 0 true ∷ Board
    1 true ∷ []

-- two callbacks run, and neither can go on
abbrev pub is_deadlock : List Filter → Moment → Bool
is_deadlock p m =
    not (activation_at m.world 0).ended && not (activation_at m.world 1).ended && not (can_go_on p m 0) && not (can_go_on p m 1)

pub crossed_deadlock : option_map (is_deadlock crossed) (run crossed two_locks) ≡ Some true
unfolding computed
crossed_deadlock = refl

-- where the order is kept the write waits, and the read goes on
pub straight_waits : option_map (λ m. can_go_on straight m 1) (run straight one_lock) ≡ Some false
unfolding computed
straight_waits = refl

pub straight_goes : option_map (λ m. can_go_on straight m 0) (run straight one_lock) ≡ Some true
unfolding computed
straight_goes = refl

-- ---- two filters at one altitude

-- the second keeps reads in its queue
abbrev pub twins : List Filter
twins =
    filter 100 []
    ∷ filter 100 (on (head.Pre Read) (if_call (fallible.InsertIo None) (return status.Pending ∷ []) [] ∷ no_callback ∷ []) ∷ []) ∷ []

-- a read is kept there, and cancelled
abbrev pub kept_read : List Transition
kept_read =
    Make (moves.Arrive Read Irp 0) ∷ Make (moves.Skip 0) ∷ Make (moves.Pre 0) ∷ Board 0 true ∷ Board 0 true ∷ Make (moves.Cancel 0) ∷ []

-- no move takes it out of the second queue: an altitude finds the first filter, attached or not. So that all operations can complete is
-- said of filters of distinct altitudes
pub never_canceled : option_map (λ m. is_some (next twins m (Make (moves.Canceled 100 0)))) (run twins kept_read) ≡ Some false
unfolding computed
never_canceled = refl

pub never_drained :
    option_map (λ m. is_some (next twins m (Make (moves.Canceled 100 0)))) (run twins (kept_read ++ Make (moves.Detach 100) ∷ []))
    ≡ Some false
unfolding computed
never_drained = refl

pub still_there : option_map (λ m. is_done m.world.store 0) (run twins (kept_read ++ Make (moves.Detach 100) ∷ Make
    (moves.Detached 100) ∷ []))
    ≡ Some false
unfolding computed
still_there = refl
