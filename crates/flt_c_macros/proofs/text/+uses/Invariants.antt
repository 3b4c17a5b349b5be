use Rattle.std.proofs.Common.{◌≡◌, [], ◌+◌, ◌-◌, ◌*◌, length}
use Rattle.flt_c_macros.specs.Machines.{unprepared}
use Rattle.flt_c_macros.specs.Uses.{again, prepared, read, stepped, turns}
use Rattle.flt_c_macros.proofs.text.+uses.Given as goal

abbrev pub decreases-read : goal.decreases-read
decreases-read l = 6 * l.depth + 4

abbrev pub decreases-step : goal.decreases-step
decreases-step l = 6 * l.depth + 3

abbrev pub decreases-call : goal.decreases-call
decreases-call l = 6 * l.depth + 2

abbrev pub decreases-call_by : goal.decreases-call_by
decreases-call_by l = 6 * l.depth + 1

abbrev pub decreases-call_given : goal.decreases-call_given
decreases-call_given l = 6 * l.depth

abbrev pub decreases-prepare : goal.decreases-prepare
decreases-prepare l = 6 * l.depth + 5

abbrev pub invariant-read-loop-turn : goal.invariant-read-loop-turn
invariant-read-loop-turn l =
    read l.kept l.macros l.depth l.source l.fn.machine
    ≡ turns (stepped l.kept l.macros l.depth (again l.kept l.macros l.depth) l.source) (l._turn-end - l._turn) l.machine

abbrev pub invariant-prepare-loop-names_left : goal.invariant-prepare-loop-names_left
invariant-prepare-loop-names_left l =
    prepared (read l.kept l.macros l.depth []) l.busy l.tokens l.names l.arguments (unprepared l.left)
    ≡ prepared (read l.kept l.macros l.depth []) l.busy l.tokens l.names_left l.arguments_left l.prepared

abbrev pub decreases-prepare-loop-names_left : goal.decreases-prepare-loop-names_left
decreases-prepare-loop-names_left l = length l.names_left
