-- How the answers of `run` and `replay` are written. This project's own program.
use Rattle.std.specs.Prelude.{ℕ, List, [], ◌∷◌, ◌++◌, codes}
use Rattle.std.specs.Fmt.{decimal}
use Rattle.flt_rules.specs.Refusal.{refusal_words}
use Rattle.flt_rules.specs.declared.refusal.Refusal.{Refusal}
use Rattle.flt_stack_crew.specs.declared.ending.Ending.{Ending}
use Rattle.flt_stack_crew.specs.declared.ending.Ending.TheVariants.{Whole}
use Rattle.flt_model.specs.Verdicts.{verdict_line}
use Rattle.flt_model.specs.declared.verdict.Verdict.TheVariants.{Legal}
use Rattle.flt_commands_runs.specs.declared.answer.RunAnswer.{RunAnswer}
use Rattle.flt_commands_runs.specs.declared.answer.RunAnswer.TheVariants.{FileRefused, Judged, Ran, Shown}

-- a refusal of one of several files
abbrev pub file_refusal_line : ℕ → Refusal → List ℕ
file_refusal_line file f = codes "refused file " ++ decimal file ++ codes " " ++ refusal_words f

-- what stands on the standard output: the journal, or a line and a line feed; of a journal that is shown, rows before that line
abbrev pub output : RunAnswer → List ℕ
output (Judged v) = verdict_line v ++ 10 ∷ []
output (Shown rows v) = rows.items ++ (verdict_line v ++ 10 ∷ [])
output (Ran ran) = ran.journal.items
output (FileRefused file f) = file_refusal_line file f ++ 10 ∷ []

-- the exit status of a journal: 2 where it is full before its script has ended, where a detach was refused, or where the receipts
-- contradict it
abbrev pub ended_status : Ending → ℕ
ended_status Whole = 0
ended_status _ = 2

-- the exit status: 0 where nothing is broken; of a journal, by how its run ended; 1 for any other answer
abbrev pub status_of : RunAnswer → ℕ
status_of (Judged Legal) = 0
status_of (Judged _) = 1
status_of (Shown rows Legal) = 0
status_of (Shown rows _) = 1
status_of (Ran ran) = ended_status ran.ending
status_of (FileRefused file f) = 1

-- how the run ended of which an answer is the journal; all other answers are whole
abbrev pub ending_of : RunAnswer → Ending
ending_of (Ran ran) = ran.ending
ending_of _ = Whole
