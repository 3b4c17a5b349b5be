-- What the walk knows at a point: a state in which rules were mended on the way, and the locks of which it is unsure. This project's own
-- definitions.
use Rattle.std.specs.Prelude.{ℕ, Bool, true, false, not, ◌&&◌, List, Option, Some, None, if◌then◌else◌}
use Rattle.flt_rules.specs.declared.place.Place.{Place}
use Rattle.flt_graph.specs.Graph.{instruction_at}
use Rattle.flt_graph.specs.declared.graph.Graph.{Graph}
use Rattle.flt_graph.specs.declared.instruction.Instruction.{Instruction}
use Rattle.flt_abs.specs.Entry.{entry}
use Rattle.flt_abs.specs.State.{State}
use Rattle.flt_abs.specs.Step.{leads_to}
use Rattle.flt_abs.specs.declared.step.Successor.{Successor}
use Rattle.flt_abs.specs.declared.step.Successors.{Successors}
use Rattle.flt_explain.specs.Locks as locks
use Rattle.flt_explain.specs.Sets as sets
use Rattle.flt_explain.specs.declared.finding.Fault.{Fault}
use Rattle.flt_explain.specs.declared.finding.Subject.{Subject}
use Rattle.flt_explain.specs.declared.finding.Subject.TheVariants as about
use Rattle.flt_explain.specs.declared.locks.Locks.{Locks}
use Rattle.flt_explain.specs.declared.sets.Sets.{Sets}
use Rattle.flt_explain.specs.declared.sight.Sight.{Sight}
use Rattle.flt_explain.specs.declared.sight.Way.{Way}
use Rattle.flt_explain.specs.declared.sight.Ways.{Ways}

-- what is known by these sets, with the locks of a state
abbrev pub sight : State → Sets → Locks → Sight
sight x s unsure = record { state = sets.filled s x; sets = s; unsure = unsure }

-- at the entry of a callback of the place
unfoldable pub entered : Place → Sight
entered place = record { state = entry place; sets = sets.sets_of (entry place); unsure = locks.none }

-- whether a fault about a subject is told: there is something in its set, and the lock isn't unsure
abbrev pub tells : Sight → Subject → Bool
tells a (about.Lock l) = not (locks.contains a.unsure l)
tells a u = sets.tells a.sets u

-- ---- where two ways meet

-- the locks by which the ways differ
abbrev pub differ : Sight → Sight → Locks
differ a b = locks.differing a.state.locks b.state.locks

-- the same, as far as both are sure of them
unfoldable pub told_apart : Sight → Sight → Locks
told_apart a b = locks.without (locks.without (differ a b) a.unsure) b.unsure

-- what is in one of both; a way that came with other locks is not joined
abbrev pub joined_sets : Sight → Sight → Sets
joined_sets a b = if locks.is_empty (differ a b) then sets.union a.sets b.sets else a.sets

-- the locks that are unsure from here on: those of both ways, and those by which they differ
abbrev pub joined_unsure : Sight → Sight → Locks
joined_unsure a b = locks.union (locks.union a.unsure b.unsure) (differ a b)

-- whether nothing is known by these sets and locks that wasn't before
abbrev pub adds_nothing : Sight → Sets → Locks → Bool
adds_nothing a s unsure = sets.is_same s a.sets && locks.is_empty (locks.without unsure a.unsure)

-- what is known where a second way comes to a point; none where that tells nothing new
unfoldable pub joined : Sight → Sight → Option Sight
joined a b =
    if adds_nothing a (joined_sets a b) (joined_unsure a b) then None
    else Some (sight a.state (joined_sets a b) (joined_unsure a b))

-- ---- behind a point

-- what is known behind an instruction by one outcome, of which these were the sets before
unfoldable pub seen : Sight → Sets → Instruction → Bool → State → Sight
seen a before i granted x = sight x (sets.after before i granted (sets.sets_of x)) a.unsure

unfoldable pub way : Sight → Sets → Instruction → Bool → Option Successor → Option Way
way a before i granted None = None
way a before i granted (Some next) = Some (record { point = next.point; sight = seen a before i granted next.state })

-- where an instruction leads from sets that were mended
abbrev pub ways : Sight → Sets → Instruction → Successors → Ways
ways a mended i next =
    record { first = way a mended i true next.first; second = way a mended i false next.second }

-- where a point leads when what is wrong there is mended
unfoldable pub past : Graph → ℕ → ℕ → List Fault → Sight → Ways
past g callback point faults a =
    let mended = sets.mended_of a.sets faults in
    ways a mended (instruction_at g callback point) (leads_to (sets.filled mended a.state) (instruction_at g callback point))
