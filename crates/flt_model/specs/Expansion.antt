-- What a journal says: the transitions of each entry, and which entry is the first that isn't a run or that breaks something.
use Rattle.std.specs.Prelude.{◌≡◌, ℕ, zero, suc, ◌+◌, Bool, List, [], ◌∷◌, ◌++◌, replicate}
use Rattle.std.specs.Prelude.{take, Option, Some, None, option_map, option_and_then}
use Rattle.flt_tree.specs.declared.filter.Filter.{Filter}
use Rattle.flt_model.specs.declared.moves.JournalEntry.{JournalEntry}
use Rattle.flt_model.specs.declared.moves.JournalEntry.TheVariants.{Move, Go}
use Rattle.flt_model.specs.declared.verdict.Verdict.{Verdict}
use Rattle.flt_model.specs.declared.verdict.Verdict.TheVariants.{Legal, NotARun, Breaks}
use Rattle.flt_model.specs.declared.verdict.Violation.{Violation}
use Rattle.flt_model.specs.Effects.{Step}
use Rattle.flt_model.specs.Program.{by_altitude}
use Rattle.flt_model.specs.Runs.{Moment, start, after, next, run, broken, breaks}
use Rattle.flt_model.specs.Steps.{Transition, Make, Local, Board}

-- ---- entries

-- so many steps of an activation, of which exactly the last is one that others see; no steps at all are never enabled
abbrev pub go_on : ℕ → ℕ → Bool → Option (List Transition)
go_on a zero grant = None
go_on a (suc n) grant = Some (replicate n (Local a) ++ Board a grant ∷ [])

-- the transitions of an entry
abbrev pub expansion : JournalEntry → Option (List Transition)
expansion (Move m) = Some (Make m ∷ [])
expansion (Go a n grant) = go_on a n grant

-- the transitions of a journal
abbrev pub expand : List JournalEntry → Option (List Transition)
expand [] = Some []
expand (e ∷ es) = option_and_then (λ xs. option_map (λ ys. xs ++ ys) (expand es)) (expansion e)

-- the transitions of a journal are a run on these filters that breaks nothing
pub record IsCleanRun (filters : List Filter) (entries : List JournalEntry) : Type 0 where
  pub transitions : List Transition
  pub last : Moment
  pub expanded : expand entries ≡ Some transitions
  pub runs : run (by_altitude filters) transitions ≡ Some last
  pub clean : breaks (by_altitude filters) transitions ≡ None

-- the first n entries are a run that breaks nothing, and with the one after them they aren't a run
pub record IsStoppedAt (filters : List Filter) (entries : List JournalEntry) (n : ℕ) : Type 0 where
  pub before : IsCleanRun filters (take n entries)
  pub stopped : option_and_then (run (by_altitude filters)) (expand (take (n + 1) entries)) ≡ None

-- the first n entries are a run that breaks nothing, and with the one after them they are a run that first breaks v
pub record IsBrokenAt (filters : List Filter) (entries : List JournalEntry) (v : Violation) (n : ℕ) : Type 0 where
  pub before : IsCleanRun filters (take n entries)
  pub transitions : List Transition
  pub last : Moment
  pub expanded : expand (take (n + 1) entries) ≡ Some transitions
  pub runs : run (by_altitude filters) transitions ≡ Some last
  pub broken : option_map (λ b. b.violation) (breaks (by_altitude filters) transitions) ≡ Some v

-- ---- the verdict

-- where some transitions lead: to a moment, to one that isn't enabled, or to a break
pub data Course : Type 0 where
  Reaches : (moment : Moment) → Course
  Stops : Course
  Fails : (violation : Violation) → Course

-- a violation ends the course
abbrev pub unless_broken : Option Violation → Course → Course
unless_broken None rest = rest
unless_broken (Some v) rest = Fails v

-- a step that isn't enabled ends the course
abbrev pub course_by : Option Step → (Step → Course) → Course
course_by None f = Stops
course_by (Some s) f = f s

-- the course of some transitions from a moment on
abbrev pub course : List Filter → Moment → List Transition → Course
course p m [] = Reaches m
course p m (x ∷ xs) = course_by (next p m x) (λ s. unless_broken (broken p m s) (course p (after m s) xs))

-- the course of an entry; one without transitions is never enabled
abbrev pub entry_course : List Filter → Moment → Option (List Transition) → Course
entry_course p m None = Stops
entry_course p m (Some xs) = course p m xs

-- what an entry's course says of the journal, where n entries stand before it
abbrev pub judged : Course → ℕ → (Moment → Verdict) → Verdict
judged (Reaches m) n rest = rest m
judged Stops n rest = NotARun n
judged (Fails v) n rest = Breaks v n

-- the verdict about entries from a moment on, where n stand before them
abbrev pub verdict_from : List Filter → Moment → ℕ → List JournalEntry → Verdict
verdict_from p m n [] = Legal
verdict_from p m n (e ∷ es) = judged (entry_course p m (expansion e)) n (λ r. verdict_from p r (n + 1) es)

-- the verdict about a journal on these filters, in any order
abbrev pub verdict : List Filter → List JournalEntry → Verdict
verdict filters entries = let p = by_altitude filters in verdict_from p (start p) 0 entries
