-- How any answer is written. This project's own program.
use Rattle.std.specs.Prelude.{◌≡◌, ℕ, List, [], ◌∷◌, ◌++◌, codes, Result, Ok, Err}
use Rattle.flt_stack_crew.specs.declared.ending.Ending.{Ending}
use Rattle.flt_stack_crew.specs.declared.ending.Ending.TheVariants.{Whole, Full, Already, Differ}
use Rattle.flt_files.specs.declared.failure.Failure.{Failure}
use Rattle.flt_commands_explain.specs.Answer as explain
use Rattle.flt_commands_explain.specs.declared.answer.ExplainAnswer.{ExplainAnswer}
use Rattle.flt_commands_runs.specs.Answer as runs
use Rattle.flt_commands_runs.specs.declared.answer.RunAnswer.{RunAnswer}
use Rattle.flt_commands_texts.specs.Answer as texts
use Rattle.flt_commands_texts.specs.declared.answer.TextAnswer.{TextAnswer}
use Rattle.flt_commands.specs.declared.answer.Answer.{Answer}
use Rattle.flt_commands.specs.declared.answer.Answer.TheVariants.{OfText, OfRun, OfExplain}

-- what stands on the standard output
abbrev pub output : Answer → List ℕ
output (OfText answer) = texts.output answer
output (OfRun answer) = runs.output answer
output (OfExplain answer) = explain.output answer

-- the exit status
abbrev pub status_of : Answer → ℕ
status_of (OfText answer) = texts.status_of answer
status_of (OfRun answer) = runs.status_of answer
status_of (OfExplain answer) = explain.status_of answer

-- how the run ended of which an answer is the journal; all other answers are whole
abbrev pub ending_of : Answer → Ending
ending_of (OfRun answer) = runs.ending_of answer
ending_of _ = Whole

-- what stands on the standard error beside a journal
abbrev pub remark : Ending → List ℕ
remark Whole = []
remark Full = codes "full" ++ 10 ∷ []
remark Already = codes "detached already" ++ 10 ∷ []
remark Differ = codes "receipts differ" ++ 10 ∷ []

-- ---- an answer of one kind

-- what commands of one kind say, as it is said of any
abbrev pub answered : {A : Type 0} → (A → Answer) → Result A Failure → Result Answer Failure
answered kind (Ok answer) = Ok (kind answer)
answered kind (Err f) = Err f

abbrev pub of_text : Result TextAnswer Failure → Result Answer Failure
of_text said = answered OfText said

abbrev pub of_run : Result RunAnswer Failure → Result Answer Failure
of_run said = answered OfRun said

abbrev pub of_explain : Result ExplainAnswer Failure → Result Answer Failure
of_explain said = answered OfExplain said

-- this is what a command of one kind says, and that holds of what it says
abbrev pub IsOf : {A : Type 0} → (A → Answer) → (Result A Failure → Type 0) → Result Answer Failure → Type 0
IsOf {A} kind holds said = (own : Result A Failure) × (said ≡ answered kind own) × holds own
