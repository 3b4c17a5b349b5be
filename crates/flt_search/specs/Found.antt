-- What a search finds. This project's own definitions.
use Rattle.std.specs.Prelude.{◌≡◌, ◌+◌, List, Option, All, IfSome, Contains, length}
use Rattle.std.specs.List.{AllZip}
use Rattle.flt_tree.specs.declared.filter.Filter.{Filter}
use Rattle.flt_model.specs.Expansion as model
use Rattle.flt_model.specs.declared.verdict.Verdict.TheVariants.{Breaks}
use Rattle.flt_model.specs.declared.verdict.Violation.{Violation}
use Rattle.flt_search.specs.declared.goal.Goal.{Goal}
use Rattle.flt_search.specs.declared.judging.BreakingJournal.{BreakingJournal}
use Rattle.flt_search.specs.declared.answering.Answer.{Answer}
use Rattle.flt_search.specs.declared.answering.Answer.TheVariants as answer

-- the journal is a run up to its last entry, which is the first to break anything: this violation
pub record IsRun (p : List Filter) (b : BreakingJournal) : Type 0 where
  pub verdict : model.verdict p b.journal ≡ Breaks b.violation b.entry
  pub last : length b.journal ≡ b.entry + 1

-- the same, and the violation is one of those that are wanted
pub record IsFound (p : List Filter) (wanted : List Violation) (b : BreakingJournal) : Type 0 where
  pub verdict : model.verdict p b.journal ≡ Breaks b.violation b.entry
  pub last : length b.journal ≡ b.entry + 1
  pub meant : Contains wanted b.violation

-- where something is found, it breaks what the goal wants
abbrev pub IsAnswer : List Filter → Goal → Answer → Type 0
IsAnswer p goal (answer.Breaks b) = IsFound p goal.wanted.now b
IsAnswer p goal _ = Unit {0}

-- each goal has its answer, in their order
abbrev pub AreAnswers : List Filter → List Goal → List Answer → Type 0
AreAnswers p goals answers = AllZip (IsAnswer p) goals answers

-- those that are there are such runs
abbrev pub AreRuns : List Filter → List (Option BreakingJournal) → Type 0
AreRuns p runs = All (λ (run : Option BreakingJournal). IfSome run (IsRun p)) runs
