-- What the next move may be about, after a step: what the step gives a ticket. A ticket is one move; what had one before keeps it.
-- This project's own rule.
use Rattle.std.specs.Prelude.{ℕ, zero, suc, ◌+◌, Bool, true, false, not, ◌&&◌, ◌||◌, ◌==◌, nat_lt}
use Rattle.std.specs.Prelude.{if◌then◌else◌, List, [], ◌∷◌, ◌++◌, length, map, Option, Some, None}
use Rattle.std.specs.List.{list_any}
use Rattle.flt_model.specs.declared.subject.Subject.{Subject}
use Rattle.flt_model.specs.declared.subject.Subject.TheVariants as subject
use Rattle.flt_model.specs.Effects.{Step}
use Rattle.flt_model.specs.Moves.{is_done, is_entry_of}
use Rattle.flt_model.specs.declared.settling.Way.{Way}
use Rattle.flt_model.specs.declared.settling.Way.TheVariants.{Passes, Frames, Ends, Rises, Stays}
use Rattle.flt_model.specs.declared.parts.Position.{Position}
use Rattle.flt_model.specs.declared.parts.Position.TheVariants.{Down, Visiting, Up}
use Rattle.flt_model.specs.World.{World, Store, is_detaching, presence_at, queue_at, route_at}

-- ---- numbers

-- the numbers below n that pass, rising
abbrev pub passing : (ℕ → Bool) → ℕ → List ℕ
passing test zero = []
passing test (suc n) = passing test n ++ (if test n then n ∷ [] else [])

-- where a list has come to be longer: the number of what came, which is one thing at most
abbrev pub newcomer : (ℕ → Subject) → ℕ → ℕ → List Subject
newcomer make before after = if nat_lt before after then make before ∷ [] else []

-- what may be there
abbrev pub one_of : Option Subject → List Subject
one_of None = []
one_of (Some one) = one ∷ []

-- ---- operations

-- an operation has come from one place to another in which it isn't in a visit; from its way up it goes into visits alone
abbrev pub goes_on : Position → Position → Bool
goes_on (Down f) (Down g) = not (f == g)
goes_on (Down f) Visiting = false
goes_on (Down f) Up = true
goes_on Visiting (Down g) = true
goes_on Visiting Visiting = false
goes_on Visiting Up = true
goes_on Up to = false

-- where an operation is once a visit of a filter is settled so
abbrev pub lands : ℕ → Way → Position → Position
lands f Passes from = Down (f + 1)
lands f Frames from = Down (f + 1)
lands f (Ends outcome) from = Up
lands f Rises from = Up
lands f Stays from = from

-- the step has left an operation neither in a visit nor done
abbrev pub is_left : Store → Store → ℕ → Bool
is_left s t o = goes_on (route_at s o).position (route_at t o).position && not (is_done t o)

-- those that were there, and one that arrived: it is at the highest filter
abbrev pub operations : Store → Store → List Subject
operations s t =
    map subject.Operation (passing (is_left s t) (length s.routes)) ++ newcomer subject.Operation (length s.arrivals) (length t.arrivals)

-- ---- entries

-- an entry of the operation stands in the filter's queue, and the operation is cancelled or the filter is being detached. Which
-- operation a visit is of never changes: here by the first store
abbrev pub waits : Store → Store → ℕ → ℕ → Bool
waits seen s f o =
    ((route_at s o).cancelled || is_detaching (presence_at s f)) && list_any (is_entry_of seen o) (queue_at s f)

-- it is so now, and wasn't before. One operation has one ticket there, however often it stands in the queue
abbrev pub comes_to_wait : Store → Store → ℕ → ℕ → Bool
comes_to_wait s t f o = waits s t f o && not (waits s s f o)

-- of a filter, by rising serial numbers
abbrev pub entries_of : Store → Store → ℕ → ℕ → List Subject
entries_of s t f altitude = map (subject.Entry altitude) (passing (comes_to_wait s t f) (length s.arrivals))

-- ---- teardowns

-- of a filter, where its teardown has begun
abbrev pub teardown_of : Store → Store → ℕ → ℕ → List Subject
teardown_of s t f altitude =
    if is_detaching (presence_at t f) && not (is_detaching (presence_at s f)) then subject.Detach altitude ∷ [] else []

-- ---- all of them

-- what each filter gives, from the lowest altitude to the highest; the altitudes are by number, from this one on
abbrev pub by_altitude : (ℕ → ℕ → List Subject) → ℕ → List ℕ → List Subject
by_altitude give f [] = []
by_altitude give f (altitude ∷ altitudes) = by_altitude give (f + 1) altitudes ++ give f altitude

-- after a step from one store to another, with the activations that it has left to go on: operations, activations, work items,
-- entries and a teardown, each by rising number; entries by altitude and then by serial number
abbrev pub subjects : List ℕ → Store → Store → List Subject → List Subject
subjects altitudes s t activations =
    operations s t ++ activations ++ newcomer subject.Item (length s.items) (length t.items)
    ++ by_altitude (entries_of s t) 0 altitudes ++ by_altitude (teardown_of s t) 0 altitudes

-- ---- moves and steps of activations

-- a move starts one activation at most
abbrev pub after_move : List ℕ → Store → Store → ℕ → ℕ → List Subject
after_move altitudes s t before after = subjects altitudes s t (newcomer subject.Activation before after)

-- an activation's own step, after which it goes on or has ended
abbrev pub after_go : List ℕ → Store → Store → ℕ → Bool → List Subject
after_go altitudes s t a goes = subjects altitudes s t (if goes then subject.Activation a ∷ [] else [])

-- a move of the machine; one that isn't enabled gives nothing
abbrev pub by_move : List ℕ → World → Option Step → List Subject
by_move altitudes w None = []
by_move altitudes w (Some step) =
    after_move altitudes w.store step.world.store (length w.activations) (length step.world.activations)
