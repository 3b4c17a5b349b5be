-- A search of the graph for a point where a fact may be so: which points are reached, without the fact or with it, and by which step.
use Rattle.std.specs.Prelude.{◌≡◌, ℕ, ◌==◌, ◌+◌, ◌<◌, ◌≤◌, Bool, true, false, ◌&&◌, ◌||◌, List, [], ◌∷◌, ◌++◌}
use Rattle.std.specs.Prelude.{length, Option, Some, None, slice_get, slice_set, reverse, if◌then◌else◌}
use Rattle.flt_abs.specs.Entry.{entry}
use Rattle.flt_graph.specs.Graph.{place_at, instruction_at, points_at}
use Rattle.flt_graph.specs.Points.{successor}
use Rattle.flt_graph.specs.declared.graph.Graph.{Graph}
use Rattle.flt_explain_origins.specs.Facts.{makes, keeps}
use Rattle.flt_explain_origins.specs.Origins.{may_be, is_outcome, leads, are_unmade, IsOrigin, IsOnPath}
use Rattle.flt_explain_origins.specs.declared.facts.Fact.{Fact}
use Rattle.flt_explain_origins.specs.declared.origin.Origin.{Origin}
use Rattle.flt_explain_origins.specs.declared.answer.Step.{Step}
use Rattle.flt_explain_origins.specs.declared.path.Mark.{Mark}
use Rattle.flt_explain_origins.specs.declared.path.ReachedPoint.{ReachedPoint}
use Rattle.flt_explain_origins.specs.declared.path.Search.{Search}

-- ---- one point more

-- whether a point is reached with the fact, or without it
abbrev pub is_marked : Mark → Bool → Bool
is_marked m true = m.present
is_marked m false = m.absent

abbrev pub marked : Mark → Bool → Mark
marked m true = record m { present = true }
marked m false = record m { absent = true }

abbrev pub added : Search → ReachedPoint → Mark → Search
added x r m = record { found = x.found ++ r ∷ []; seen = slice_set x.seen r.point (marked m r.is_so) }

-- a point is reached once with the fact, and once without it
abbrev pub arrived_by : Option Mark → Search → ReachedPoint → Search
arrived_by None x r = x
arrived_by (Some m) x r = if is_marked m r.is_so then x else added x r m

abbrev pub arrived : Search → ReachedPoint → Search
arrived x r = arrived_by (slice_get x.seen r.point) x r

-- ---- one step more

abbrev pub reached : ℕ → Bool → ℕ → Step → ReachedPoint
reached p so n s = record { point = p; is_so = so; arrival = Some (n, s) }

-- a point is reached without the fact, and with it too where it may be so
abbrev pub arrived_both : Bool → ℕ → ℕ → Step → Search → Search
arrived_both true p n s x = arrived (arrived x (reached p true n s)) (reached p false n s)
arrived_both false p n s x = arrived x (reached p false n s)

-- whether a fact may be so after a step from a point that is reached so
abbrev pub may_be_after : Graph → ℕ → Fact → ReachedPoint → Step → Bool
may_be_after g k f r s =
    makes (instruction_at g k s.point) s.granted s.gives f || (r.is_so && keeps (instruction_at g k s.point) s.granted f)

abbrev pub led : Option ℕ → Bool → Bool → ℕ → Step → Search → Search
led (Some p) true so n s x = arrived_both so p n s x
led _ _ so n s x = x

-- where a step leads is reached, if it may come out so
abbrev pub taken : Graph → ℕ → Fact → ℕ → ReachedPoint → Step → Search → Search
taken g k f n r s x =
    led (successor (instruction_at g k s.point) s.granted) (is_outcome (instruction_at g k s.point) s.granted)
    (may_be_after g k f r s) n s x

abbrev pub step : ℕ → Bool → Bool → Step
step p granted gives = record { point = p; granted = granted; gives = gives }

-- each way in which a point comes out is taken
abbrev pub gone_on : Graph → ℕ → Fact → ℕ → ReachedPoint → Search → Search
gone_on g k f n r x =
    taken g k f n r (step r.point false false) (taken g k f n r (step r.point false true)
    (taken g k f n r (step r.point true false) (taken g k f n r (step r.point true true) x)))

-- ---- the entry

abbrev pub unmarked : Mark
unmarked = record { absent = false; present = false }

abbrev pub at_entry : Bool → ReachedPoint
at_entry so = record { point = 0; is_so = so; arrival = None }

-- the entry is reached without the fact, and with it too where it may be so
abbrev pub entered : Bool → Search → Search
entered true x = arrived (arrived x (at_entry true)) (at_entry false)
entered false x = arrived x (at_entry false)

-- no point is reached, and there is a mark for each point and for one more
pub record IsUnsearched (count p : ℕ) (x : Search) : Type 0 where
  pub none : x.found ≡ []
  pub marks : (q : ℕ) (m : Mark) → slice_get x.seen q ≡ Some m → m ≡ unmarked
  pub points : count ≤ length x.seen
  pub target : p < length x.seen

-- ---- what holds of a search

-- a step leads to a point from one that is reached before
pub record IsStepTo (g : Graph) (k : ℕ) (f : Fact) (found : List ReachedPoint) (n : ℕ) (r : ReachedPoint) (m : ℕ) (s : Step) : Type 0 where
  pub before : m < n
  pub from : ReachedPoint
  pub there : slice_get found m ≡ Some from
  pub point : s.point ≡ from.point
  pub outcome : is_outcome (instruction_at g k s.point) s.granted ≡ true
  pub leads : successor (instruction_at g k s.point) s.granted ≡ Some r.point
  pub so : r.is_so ≡ true → may_be_after g k f from s ≡ true

-- a point is the entry, or a step leads there
abbrev pub IsArrival : Graph → ℕ → Fact → List ReachedPoint → ℕ → ReachedPoint → Option (ℕ × Step) → Type 0
IsArrival g k f found n r None = (r.point ≡ 0) × (r.is_so ≡ true → may_be (entry (place_at g k)) f ≡ true)
IsArrival g k f found n r (Some a) = IsStepTo g k f found n r a.0 a.1

abbrev pub AreArrivals : Graph → ℕ → Fact → List ReachedPoint → Type 0
AreArrivals g k f found = (n : ℕ) (r : ReachedPoint) → slice_get found n ≡ Some r → IsArrival g k f found n r r.arrival

-- a point is among those that are reached
pub record IsReached (found : List ReachedPoint) (p : ℕ) (so : Bool) : Type 0 where
  pub number : ℕ
  pub one : ReachedPoint
  pub there : slice_get found number ≡ Some one
  pub point : one.point ≡ p
  pub same : one.is_so ≡ so

-- whether this is the point that is looked for, with the fact
abbrev pub is_sought : ReachedPoint → ℕ → Bool
is_sought r p = (r.point == p) && r.is_so

-- what is marked is reached
abbrev pub AreMarks : Search → Type 0
AreMarks x = (p : ℕ) (m : Mark) (so : Bool) → slice_get x.seen p ≡ Some m → is_marked m so ≡ true → IsReached x.found p so

-- where the steps from a point lead is reached, if the table has it
abbrev pub IsFollowed : Graph → ℕ → Fact → Search → ReachedPoint → Type 0
IsFollowed g k f x r =
    (granted gives : Bool) (p : ℕ) → is_outcome (instruction_at g k r.point) granted ≡ true →
    successor (instruction_at g k r.point) granted ≡ Some p → p < length x.seen →
    IsReached x.found p false × (may_be_after g k f r (step r.point granted gives) ≡ true → IsReached x.found p true)

-- the points of the first numbers are followed, and none of them is the one that is looked for, with the fact
pub record IsSearched (g : Graph) (k : ℕ) (f : Fact) (p : ℕ) (x : Search) (number : ℕ) : Type 0 where
  pub arrivals : AreArrivals g k f x.found
  pub marks : AreMarks x
  pub points : points_at g k ≤ length x.seen
  pub target : p < length x.seen
  pub entry_bare : IsReached x.found 0 false
  pub entry_so : may_be (entry (place_at g k)) f ≡ true → IsReached x.found 0 true
  pub followed : (n : ℕ) (r : ReachedPoint) → n < number → slice_get x.found n ≡ Some r → IsFollowed g k f x r
  pub others : (n : ℕ) (r : ReachedPoint) → n < number → slice_get x.found n ≡ Some r → is_sought r p ≡ false

-- ---- what is found

-- the fact is so at the point of a number, and these steps, the last one first, keep it from there to a point; none of them makes it
pub record IsTraced (g : Graph) (k : ℕ) (f : Fact) (found : List ReachedPoint) (p number : ℕ) (later : List Step) : Type 0 where
  pub one : ReachedPoint
  pub there : slice_get found number ≡ Some one
  pub so : one.is_so ≡ true
  pub kept : leads g k f (Some one.point) (reverse later) ≡ Some p
  pub unmade : are_unmade g k f (reverse later) ≡ true

-- the point of a number is the one that is looked for, with the fact
pub record IsFound (g : Graph) (k : ℕ) (f : Fact) (p : ℕ) (x : Search) (number : ℕ) : Type 0 where
  pub arrivals : AreArrivals g k f x.found
  pub one : ReachedPoint
  pub there : slice_get x.found number ≡ Some one
  pub sought : is_sought one p ≡ true

-- where the fact is so at the point of a number, this is its origin there, on a path of the graph
abbrev pub IsFollowedBack : Graph → ℕ → Fact → List ReachedPoint → ℕ → Origin → Type 0
IsFollowedBack g k f found number o =
    (p : ℕ) → IsTraced g k f found p number [] → IsOrigin g k f p o × IsOnPath g k f p o

-- ---- how long it lasts

-- how often a point may be reached still
abbrev pub open_sides : Mark → ℕ
open_sides m = (if m.absent then 0 else 1) + (if m.present then 0 else 1)

abbrev pub open_in : List Mark → ℕ
open_in [] = 0
open_in (m ∷ ms) = open_sides m + open_in ms
