-- What comes of findings in runs of some filters. This project's own definitions.
use Rattle.std.specs.Prelude.{◌≡◌, ℕ, ◌+◌, ◌≤◌, Bool, true, false, List, Option, Some, Contains, IfSome, length, slice_get, slice_range}
use Rattle.std.specs.Borrow.{Bor}
use Rattle.std.specs.List.{AllZip}
use Rattle.flt_tree.specs.declared.filter.Callback.{Callback}
use Rattle.flt_tree.specs.declared.filter.Filter.{Filter}
use Rattle.flt_tree.specs.declared.tree.Tree.{Tree}
use Rattle.flt_graph.specs.declared.graph.Graph.{Graph}
use Rattle.flt_explain.specs.declared.finding.Finding.{Finding}
use Rattle.flt_starts.specs.Closed.{IsClosed}
use Rattle.flt_starts.specs.Starts.{NeverStarts}
use Rattle.flt_search_started.specs.Marks.{is_marked}
use Rattle.flt_search.specs.Found.{IsFound}
use Rattle.flt_search.specs.declared.answering.Answer.{Answer}
use Rattle.flt_search.specs.declared.answering.Answer.TheVariants as answer
use Rattle.flt_search.specs.declared.goal.Goal.{Goal}
use Rattle.flt_model.specs.Program.{callbacks_at, filters_of, HasDistinctAltitudes}
use Rattle.flt_model.specs.declared.verdict.Violation.{Violation}
use Rattle.flt_explain_outcomes.specs.HandOver.{is_without_hand_over}
use Rattle.flt_explain_outcomes.specs.Meeting.{meets_others}
use Rattle.flt_explain_outcomes.specs.Reach.{IsNeverStarted, IsNeverGot}
use Rattle.flt_explain_outcomes.specs.Violations.{violations_of}
use Rattle.flt_explain_outcomes.specs.declared.schedules.Schedule.{Schedule}
use Rattle.flt_explain_outcomes.specs.declared.schedules.Schedule.TheVariants as schedule
use Rattle.flt_explain_outcomes.specs.declared.schedules.JointOutcome.{JointOutcome}
use Rattle.flt_explain_outcomes.specs.declared.schedules.JointOutcome.TheVariants as scheduled
use Rattle.flt_explain_outcomes.specs.declared.schedules.Outcome.{Outcome}
use Rattle.flt_explain_outcomes.specs.declared.schedules.Suspect.{Suspect}

-- ---- what is looked for, and found

-- the finding's rule prevents all of these
abbrev pub AreWanted : Finding → List Violation → Type 0
AreWanted f wanted = (v : Violation) → Contains wanted v → Contains (violations_of f.rule) v

-- what is looked for is what the finding's rule prevents
abbrev pub IsGoalFor : Suspect → Goal → Type 0
IsGoalFor s goal = AreWanted s.finding goal.wanted.now

-- what is found breaks something that the finding's rule prevents
abbrev pub IsFoundFor : List Filter → Finding → Answer → Type 0
IsFoundFor p f (answer.Breaks b) = IsFound p (violations_of f.rule) b
IsFoundFor p f _ = Unit {0}

abbrev pub IsFoundBy : List Filter → Finding → Option (Bor Answer) → Type 0
IsFoundBy p f a = IfSome a (λ (b : Bor Answer). IsFoundFor p f b.now)

-- the same of as many findings as have an answer
abbrev pub AreFound : List Filter → List Suspect → List Answer → Type 0
AreFound p found answers =
    (k : ℕ) (s : Suspect) → slice_get found k ≡ Some s → IfSome (slice_get answers k) (IsFoundFor p s.finding)

-- ---- what comes of a finding

-- the journal breaks, by its last entry, something that the finding's rule prevents. That nothing hands a context is said exactly where
-- `arg` is held where it mustn't be, and nothing ever gives it one. That nothing starts the callback is said only where no run starts it,
-- whatever other filters take part; that nothing sets a context which is asked for on each path to what is found, only where that is so.
-- Where no run was found nothing is claimed.
abbrev pub IsSchedule : List Filter → List Callback → Graph → Finding → Schedule → Type 0
IsSchedule p cs g f (schedule.Breaks b) = IsFound p (violations_of f.rule) b × (is_without_hand_over g f ≡ false)
IsSchedule p cs g f schedule.NeverHanded = is_without_hand_over g f ≡ true
IsSchedule p cs g f schedule.NeverStarted = IsNeverStarted g f × NeverStarts cs f.callback
IsSchedule p cs g f (schedule.NeverGot u) = IsNeverGot g f u
IsSchedule p cs g f schedule.NotWithin = is_without_hand_over g f ≡ false
IsSchedule p cs g f schedule.Cut = is_without_hand_over g f ≡ false

-- the callbacks of the filter of a number
abbrev pub callbacks_of : List Tree → ℕ → List Callback
callbacks_of trees n = callbacks_at (filters_of trees) n

-- where it is known which of some callbacks may start, nothing leads out of these
abbrev pub IsStartedOf : List Callback → Option (Bor (List Bool)) → Type 0
IsStartedOf cs started = IfSome started (λ (s : Bor (List Bool)). IsClosed cs (is_marked s.now))

-- the filter of a number alone
abbrev pub only : List Tree → ℕ → List Tree
only trees n = slice_range trees n (n + 1)

-- runs of all filters are looked for only where a stack is asked for, the filter of a number meets another one, and all can be there at
-- once: they are 16 at most, and no two have one altitude
pub record MayMeet (is_stack : Bool) (trees : List Tree) (n : ℕ) : Type 0 where
  pub asked : is_stack ≡ true
  pub few : length trees ≤ 16
  pub meets : meets_others trees n ≡ true
  pub distinct : HasDistinctAltitudes (filters_of trees)

-- what is found in runs of all filters
abbrev pub IsTogetherFor : Bool → List Tree → ℕ → Finding → Answer → Type 0
IsTogetherFor is_stack trees n f (answer.Breaks b) = IsFound (filters_of trees) (violations_of f.rule) b × MayMeet is_stack trees n
IsTogetherFor is_stack trees n f _ = Unit {0}

abbrev pub IsTogetherBy : Bool → List Tree → ℕ → Finding → Option (Bor Answer) → Type 0
IsTogetherBy is_stack trees n f a = IfSome a (λ (b : Bor Answer). IsTogetherFor is_stack trees n f b.now)

-- the same of as many findings as have an answer
abbrev pub AreTogether : Bool → List Tree → ℕ → List Suspect → List Answer → Type 0
AreTogether is_stack trees n found answers =
    (k : ℕ) (s : Suspect) → slice_get found k ≡ Some s → IfSome (slice_get answers k) (IsTogetherFor is_stack trees n s.finding)

-- what comes of a finding of the filter of a number, which has these points: it holds of the filter alone, or of all of them where a
-- stack is asked for and those may meet
abbrev pub IsScheduled : Bool → List Tree → ℕ → Graph → Finding → JointOutcome → Type 0
IsScheduled is_stack trees n g f (scheduled.Alone a) = IsSchedule (filters_of (only trees n)) (callbacks_of trees n) g f a
IsScheduled is_stack trees n g f (scheduled.Together a) =
    IsSchedule (filters_of trees) (callbacks_of trees n) g f a × MayMeet is_stack trees n

pub record IsOutcome (is_stack : Bool) (trees : List Tree) (n : ℕ) (g : Graph) (s : Suspect) (o : Outcome) : Type 0 where
  pub number : o.number ≡ s.number
  pub scheduled : IsScheduled is_stack trees n g s.finding o.scheduled

-- each finding has what comes of it, in their order
abbrev pub AreOutcomes : Bool → List Tree → ℕ → Graph → List Suspect → List Outcome → Type 0
AreOutcomes is_stack trees n g found all = AllZip (IsOutcome is_stack trees n g) found all
