-- The walk over the points of one callback, past what is wrong there: always the least point that is pending is looked at, what is wrong
-- there is told and mended, and where that leads something new is known is pending again. This project's own definitions.
use Rattle.std.specs.Prelude.{ℕ, zero, suc, ◌+◌, ◌*◌, ◌^◌, ◌-◌, min, Bool, true, false, List, [], ◌∷◌}
use Rattle.std.specs.Prelude.{replicate, slice_index_or, slice_set, Option, Some, None, if◌then◌else◌}
use Rattle.flt_rules.specs.declared.call.LockNumber.{LockNumber}
use Rattle.flt_rules.specs.declared.rule.Rule.TheVariants.{R12}
use Rattle.flt_graph.specs.Graph.{place_at, points_at, line_at}
use Rattle.flt_graph.specs.declared.graph.Graph.{Graph}
use Rattle.flt_abs.specs.State.{State}
use Rattle.flt_analyse.specs.Pending.{least}
use Rattle.flt_explain.specs.Faults.{faults_at}
use Rattle.flt_explain.specs.Locks as locks
use Rattle.flt_explain.specs.Sight.{entered, tells, told_apart, joined, past}
use Rattle.flt_explain.specs.Told.{finding_at, told}
use Rattle.flt_explain.specs.declared.finding.Fault.{Fault}
use Rattle.flt_explain.specs.declared.finding.Finding.{Finding}
use Rattle.flt_explain.specs.declared.finding.Subject.TheVariants as about
use Rattle.flt_explain.specs.declared.locks.Locks.{Locks}
use Rattle.flt_explain.specs.declared.sight.Sight.{Sight}
use Rattle.flt_explain.specs.declared.sight.Way.{Way}
use Rattle.flt_explain.specs.declared.sight.Ways.{Ways}
use Rattle.flt_explain.specs.declared.tell.Spot.{Spot}
use Rattle.flt_explain.specs.declared.walk.Walk.{Walk}

-- ---- what is told at a point

-- the findings with these faults, as far as they are told
abbrev pub faults_told : Spot → Sight → List Fault → List Finding → List Finding
faults_told s a [] found = found
faults_told s a (f ∷ fs) found =
    faults_told s a fs (if tells a f.subject then told found (finding_at s f.rule f.subject) else found)

-- the findings with one for each of the locks by which ways differ, among these
abbrev pub locks_told_of : Spot → Locks → List LockNumber → List Finding → List Finding
locks_told_of s differ [] found = found
locks_told_of s differ (l ∷ ls) found =
    locks_told_of s differ ls (if locks.contains differ l then told found (finding_at s R12 (about.Lock l)) else found)

unfoldable pub locks_told : Spot → Locks → List Finding → List Finding
locks_told s differ = locks_told_of s differ locks.all_locks

-- ---- what is known, and what is pending

-- what is known at a point
abbrev pub known : Walk → ℕ → Option Sight
known w point = slice_index_or w.points point None

-- a point is pending, or no longer
abbrev pub marked : Walk → ℕ → Bool → Walk
marked w point is_pending = record w { pending = slice_set w.pending point is_pending }

-- this is known at a point from now on, and it is pending
abbrev pub arrived : Walk → ℕ → Sight → Walk
arrived w point a = marked (record w { points = slice_set w.points point (Some a) }) point true

-- nothing is reached
abbrev pub blank : ℕ → Walk
blank n = record { points = replicate n None; pending = replicate n false }

-- the callback is entered, and nothing else is reached
unfoldable pub opened : Graph → ℕ → Walk
opened g callback = arrived (blank (points_at g callback)) 0 (entered (place_at g callback))

-- the least point that is pending
abbrev pub first_pending : Walk → Option ℕ
first_pending w = least w.pending

-- the walk without this pending point, if there is one
abbrev pub taken_if : Walk → Option ℕ → Walk
taken_if w (Some point) = marked w point false
taken_if w None = w

-- ---- where a way leads to a point

-- what becomes known where this was known; none where that is nothing new
abbrev pub news : Option Sight → Sight → Option Sight
news None b = Some b
news (Some a) b = joined a b

abbrev pub arrived_if : Walk → ℕ → Option Sight → Walk
arrived_if w point None = w
arrived_if w point (Some a) = arrived w point a

unfoldable pub reached : Walk → Option Way → Walk
reached w None = w
reached w (Some y) = arrived_if w y.point (news (known w y.point) y.sight)

-- the locks by which a way differs from those that led to its point before
abbrev pub apart : Option Sight → Sight → Locks
apart None b = locks.none
apart (Some a) b = told_apart a b

unfoldable pub met : Walk → Option Way → Locks
met w None = locks.none
met w (Some y) = apart (known w y.point) y.sight

-- ---- a look at a point

-- what is known and pending, and what was found so far
pub record Progress : Type 0 where
  pub walk : Walk
  pub found : List Finding

abbrev pub progress : Walk → List Finding → Progress
progress w found = record { walk = w; found = found }

-- two ways lead on, the first before the second
unfoldable pub led : Spot → Ways → Progress → Progress
led s ways x =
    let first = reached x.walk ways.first in
    progress (reached first ways.second) (locks_told s (met first ways.second) (locks_told s (met x.walk ways.first) x.found))

-- what is wrong at a point
unfoldable pub wrong : Graph → Spot → State → List Fault
wrong g s x = faults_at g s.callback s.point x

-- that is told, and the walk goes on as if it weren't
abbrev pub looked_with : Graph → Spot → Sight → List Fault → Progress → Progress
looked_with g s a faults x =
    led s (past g s.callback s.point faults a) (progress x.walk (faults_told s a faults x.found))

abbrev pub looked_at : Graph → Spot → Option Sight → Progress → Progress
looked_at g s None x = x
looked_at g s (Some a) x = looked_with g s a (wrong g s a.state) x

unfoldable pub looked : Graph → Spot → Progress → Progress
looked g s x = looked_at g s (known x.walk s.point) x

-- ---- the walk

abbrev pub spot : Graph → ℕ → ℕ → Spot
spot g callback point = record { callback = callback; point = point; line = line_at g callback point }

-- a look at a point that is taken; where none is pending nothing changes
abbrev pub step_at : Graph → ℕ → Progress → Option ℕ → Progress
step_at g callback x None = x
step_at g callback x (Some point) = looked g (spot g callback point) (progress (marked x.walk point false) x.found)

unfoldable pub step : Graph → ℕ → Progress → Progress
step g callback x = step_at g callback x (first_pending x.walk)

-- so many looks
unfoldable pub steps : Graph → ℕ → ℕ → Progress → Progress
steps g callback zero x = x
steps g callback (suc n) x = steps g callback n (step g callback x)

-- how often the points of a callback are looked at, at most: eighty times each, as far as the machine counts
abbrev pub looks : Graph → ℕ → ℕ
looks g callback = min (points_at g callback * 80) (2 ^ 64 - 1)

-- the findings with all that is wrong in a callback
unfoldable pub walked : Graph → ℕ → List Finding → List Finding
walked g callback found = (steps g callback (looks g callback) (progress (opened g callback) found)).found

-- the same for so many callbacks from one on, in order
unfoldable pub walked_from : Graph → ℕ → ℕ → List Finding → List Finding
walked_from g callback zero found = found
walked_from g callback (suc n) found = walked_from g (callback + 1) n (walked g callback found)
