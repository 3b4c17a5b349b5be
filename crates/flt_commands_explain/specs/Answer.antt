-- How the answers of `explain` are written. This project's own program.
use Rattle.std.specs.Prelude.{ℕ, List, [], ◌∷◌, Result, Ok, Err}
use Rattle.std.specs.List.{join_by}
use Rattle.flt_files.specs.Unread.{status_beside}
use Rattle.flt_files.specs.declared.failure.Failure.{Failure}
use Rattle.flt_commands_explain.specs.declared.answer.ExplainAnswer.{ExplainAnswer}
use Rattle.flt_commands_explain.specs.declared.answer.ExplainAnswer.TheVariants.{Explained, Pages}

-- what stands on the standard output: reports, or pages with an empty line between them
abbrev pub output : ExplainAnswer → List ℕ
output (Explained e unread) = e.explained.output.items
output (Pages pages) = join_by (λ page. page.now) (10 ∷ []) pages.items

-- how many of these bytes went out before the end; only of reports some do
abbrev pub sent_of : ExplainAnswer → ℕ
sent_of (Explained e unread) = e.sent
sent_of (Pages pages) = 0

-- the same of what is said: where there is no answer, nothing did
abbrev pub sent_in : Result ExplainAnswer Failure → ℕ
sent_in (Ok answer) = sent_of answer
sent_in (Err f) = 0

-- the exit status: of reports, their own, where each file is read; 0 of pages
abbrev pub status_of : ExplainAnswer → ℕ
status_of (Explained e unread) = status_beside e.explained.status unread.items
status_of (Pages pages) = 0
