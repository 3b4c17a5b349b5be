-- A text with one more callback, and what comes there of what is found in the text without it. This project's own definitions.
use Rattle.std.specs.Prelude.{◌≡◌, ℕ, All, List, [], ◌∷◌, Some, slice_get}
use Rattle.flt_tree.specs.Names.{Text}
use Rattle.flt_tree.specs.declared.tree.Tree.{Tree}
use Rattle.flt_explain.specs.declared.finding.Finding.{Finding}
use Rattle.flt_model.specs.Program.{filters_of}
use Rattle.flt_search.specs.Found.{IsFound}
use Rattle.flt_search.specs.declared.judging.BreakingJournal.{BreakingJournal}
use Rattle.flt_explain_outcomes.specs.Violations.{violations_of}
use Rattle.flt_explain_outcomes.specs.declared.schedules.Outcome.{Outcome}
use Rattle.flt_explain_outcomes.specs.declared.schedules.Schedule.TheVariants.{Breaks}
use Rattle.flt_explain_outcomes.specs.declared.schedules.Suspect.{Suspect}
use Rattle.flt_explain_outcomes.specs.Noted.{schedule_of}
use Rattle.flt_explain_outcomes.specs.Setters.{IsSetter}
use Rattle.flt_explain_outcomes.specs.declared.again.Setting.{Setting}
use Rattle.flt_explain_outcomes.specs.declared.noted.SetterOutcome.{SetterOutcome}
use Rattle.flt_explain_outcomes.specs.declared.noted.SetterOutcome.TheVariants.{Runs, RunsNowhere}

-- a finding of the text with the callback is of the rule of the one of its number without it
pub record IsSuspectAgain (found : List Finding) (s : Suspect) : Type 0 where
  pub finding : Finding
  pub numbered : slice_get found s.number ≡ Some finding
  pub rule : s.finding.rule ≡ finding.rule

-- a run on these filters breaks what the rule of the finding of its number prevents
abbrev pub IsOutcomeAgain : List Tree → List Finding → Outcome → Type 0
IsOutcomeAgain trees found o =
    (f : Finding) (b : BreakingJournal) → slice_get found o.number ≡ Some f → schedule_of o.scheduled ≡ Breaks b →
    IsFound (filters_of trees) (violations_of f.rule) b

-- there is one tree alone
pub record IsAlone (trees : List Tree) : Type 0 where
  pub tree : Tree
  pub is : trees ≡ tree ∷ []

-- a run is that of the outcome
abbrev pub IsAgainBy : Outcome → SetterOutcome → Type 0
IsAgainBy o (Runs b) = schedule_of o.scheduled ≡ Breaks b
IsAgainBy o RunsNowhere = Unit {0}

-- an outcome is that of the finding of a number
pub record IsOutcomeOf (s : Setting) (number : ℕ) (o : Outcome) : Type 0 where
  pub place : ℕ
  pub at : slice_get s.outcomes.items place ≡ Some o
  pub same : o.number ≡ number

-- what comes of findings of a text, where one more callback stands behind it
pub record IsSetting (text : Text) (found : List Finding) (s : Setting) : Type 0 where
  pub setter : IsSetter text s.setter
  pub outcomes : All (IsOutcomeAgain s.setter.trees found) s.outcomes.items
