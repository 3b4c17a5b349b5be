-- What stands on the standard error of `explain` beside an answer, or above the line that says why there is none. This project's own
-- program.
use Rattle.std.specs.Prelude.{◌≡◌, ℕ, List, [], ◌∷◌, ◌++◌, codes, flat_map, string_bytes, Option, Some, None, Result, Ok, Err}
use Rattle.flt_model.specs.JournalText.{Entries}
use Rattle.flt_explain_outcomes.specs.Noted.{first_journal}
use Rattle.flt_files.specs.declared.unread.UnreadFile.{UnreadFile}
use Rattle.flt_words.specs.Shown.{visible}
use Rattle.flt_files.specs.Inputs.{Text}
use Rattle.flt_commands_explain.specs.declared.answer.ExplainAnswer.{ExplainAnswer}
use Rattle.flt_commands_explain.specs.declared.answer.ExplainAnswer.TheVariants.{Explained}
use Rattle.flt_files.specs.declared.failure.Failure.{Failure}

-- that a file isn't read, why, what to do about it, and that it can't be, under its name as it is shown
abbrev pub lines_on : List ℕ → List ℕ → List ℕ → List ℕ
lines_on name why help =
    codes "error: `" ++ (name ++ (codes "` isn't read: " ++ (why ++ ((10 ∷ codes "   = help: ")
    ++ (help ++ ((10 ∷ codes "cannot read ") ++ (name ++ 10 ∷ [])))))))

-- the lines on a file that isn't read
abbrev pub unread_lines : UnreadFile → List ℕ
unread_lines file = lines_on (visible (string_bytes file.name)) (string_bytes file.why) file.help.now

-- the same of each file that isn't read beside an answer, in their order
abbrev pub unread_in : ExplainAnswer → List ℕ
unread_in (Explained e unread) = flat_map unread_lines unread.items
unread_in answer = []

-- no journal is there for the file of this name: the line that says so
abbrev pub unfound_for : Text → Option Entries → List ℕ
unfound_for name (Some entries) = []
unfound_for name None = codes "no run is found: " ++ (visible name ++ (codes " is as it was" ++ 10 ∷ []))

-- the same where a file is named for the journal of the first finding that has one
abbrev pub unfound : Option Text → ExplainAnswer → List ℕ
unfound (Some name) (Explained e unread) = unfound_for name (first_journal e.noted)
unfound _ answer = []

-- beside an answer these lines stand, and no others; where there is none, it may be said why a file isn't read or written
abbrev pub IsFound : Option Text → Result ExplainAnswer Failure → List ℕ → Type 0
IsFound journal (Ok answer) lines = lines ≡ unread_in answer ++ unfound journal answer
IsFound journal (Err f) lines = Unit {0}
