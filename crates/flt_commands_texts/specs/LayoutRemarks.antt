-- What is said on the standard error of files that are laid out. This project's own program.
use Rattle.std.specs.Prelude.{ℕ, List, [], ◌∷◌, ◌++◌, codes, flat_map, string_bytes}
use Rattle.flt_explain_texts.specs.Closing.{syntax_line}
use Rattle.flt_syntax.specs.declared.fault.SyntaxFault.{SyntaxFault}
use Rattle.flt_words.specs.Shown.{visible}
use Rattle.flt_words.specs.declared.request.FormatMode.{FormatMode}
use Rattle.flt_words.specs.declared.request.FormatMode.TheVariants as modes
use Rattle.flt_files.specs.Inputs.{Text}
use Rattle.flt_files.specs.Unwritten.{unwritten_line}
use Rattle.flt_files.specs.declared.unread.UnreadFile.{UnreadFile}
use Rattle.flt_commands_texts.specs.declared.answer.TextAnswer.{TextAnswer}
use Rattle.flt_commands_texts.specs.declared.answer.TextAnswer.TheVariants.{Formatted}
use Rattle.flt_commands_texts.specs.declared.outcomes.FileOutcome.{FileOutcome}
use Rattle.flt_commands_texts.specs.declared.outcomes.Outcome.{Outcome}
use Rattle.flt_commands_texts.specs.declared.outcomes.Outcomes.{Outcomes}
use Rattle.flt_commands_texts.specs.declared.outcomes.Outcome.TheVariants.{Same, Other, Unwritten, Fault, Long}

-- that a file isn't read
abbrev pub unread_line : UnreadFile → List ℕ
unread_line file = codes "cannot read " ++ (visible (string_bytes file.name) ++ 10 ∷ [])

-- why a file has no layout: of one that is printed as `check` says it, of others after their names
abbrev pub reason_line : FormatMode → Text → List ℕ → List ℕ
reason_line modes.Print name why = why ++ 10 ∷ []
reason_line _ name why = visible name ++ (codes ": " ++ (why ++ 10 ∷ []))

-- the same of a fault of its text
abbrev pub fault_line : FormatMode → Text → SyntaxFault → List ℕ
fault_line mode name f = reason_line mode name (syntax_line f)

-- what is on the standard error of the file of a name
abbrev pub remark : FormatMode → Text → Outcome → List ℕ
remark mode name (Same layout) = []
remark mode name (Other layout) = []
remark mode name (Unwritten layout why) = why.items ++ unwritten_line name
remark mode name (Fault f) = fault_line mode name f
remark mode name Long = reason_line mode name (codes "layout too long")

-- the same of a file
abbrev pub remarked : FormatMode → FileOutcome → List ℕ
remarked mode file = remark mode (string_bytes file.name) file.outcome

-- the same of all files: first of those that aren't read
abbrev pub all_remarks : FormatMode → Outcomes → List ℕ
all_remarks mode found = flat_map unread_line found.unread.items ++ flat_map (remarked mode) found.files.items

-- the same beside an answer: which files aren't read, and of the others why they have no layout or aren't written
abbrev pub remarks_in : TextAnswer → List ℕ
remarks_in (Formatted mode found) = all_remarks mode found
remarks_in answer = []
