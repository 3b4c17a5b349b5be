-- The last lines of reports. This project's own program.
use Rattle.std.specs.Prelude.{ℕ, List, [], ◌∷◌, ◌++◌, codes}
use Rattle.std.specs.Fmt.{decimal}
use Rattle.flt_places.specs.Files.{file_line, file_place}
use Rattle.flt_places.specs.declared.files.Files.{Files}
use Rattle.flt_rules.specs.Refusal.{refusal_line}
use Rattle.flt_rules.specs.declared.refusal.Refusal.{Refusal}
use Rattle.flt_syntax.specs.declared.fault.FaultKind.{FaultKind}
use Rattle.flt_syntax.specs.declared.fault.FaultKind.TheVariants.{E01, E02, E03, E04, E05, E06, E07, E08}
use Rattle.flt_syntax.specs.declared.fault.SyntaxFault.{SyntaxFault}
use Rattle.flt_tree.specs.declared.filter.Position.{Position}
use Rattle.flt_explain.specs.declared.finding.Finding.{Finding}
use Rattle.flt_explain_texts.specs.declared.judged.TextJudgement.{TextJudgement}
use Rattle.flt_explain_texts.specs.declared.judged.TextJudgement.TheVariants.{Unread, Known}

-- `E01` to `E08`
abbrev pub fault_name : FaultKind → List ℕ
fault_name E01 = codes "E01"
fault_name E02 = codes "E02"
fault_name E03 = codes "E03"
fault_name E04 = codes "E04"
fault_name E05 = codes "E05"
fault_name E06 = codes "E06"
fault_name E07 = codes "E07"
fault_name E08 = codes "E08"

-- the first fault of a text, as `check` and `analyse` say it
abbrev pub syntax_line : SyntaxFault → List ℕ
syntax_line f = codes "syntax " ++ decimal f.line ++ codes ":" ++ decimal f.column ++ codes " " ++ fault_name f.kind

-- the refusal that a finding is, by its line in its file
abbrev pub refusal_in : Files → Finding → Refusal
refusal_in files f = record { callback = f.callback; point = f.point; line = file_line files f.line; rule = f.rule }

-- the last line where these are found: the first of them, by its line in its file
abbrev pub findings_closing : Files → List Finding → List ℕ
findings_closing files [] = codes "nothing found" ++ 10 ∷ []
findings_closing files (f ∷ fs) = refusal_line (refusal_in files f) ++ 10 ∷ []

-- a fault by its place in its file
abbrev pub fault_at : SyntaxFault → Position → SyntaxFault
fault_at f place = record { line = place.line; column = place.column; kind = f.kind }

abbrev pub fault_in : Files → SyntaxFault → SyntaxFault
fault_in files f = fault_at f (file_place files (record { line = f.line; column = f.column }))

-- the last line where a text has this fault
abbrev pub fault_closing : Files → SyntaxFault → List ℕ
fault_closing files f = syntax_line (fault_in files f) ++ 10 ∷ []

-- the last line of a report
abbrev pub closing : Files → TextJudgement → List ℕ
closing files (Unread f) = fault_closing files f
closing files (Known tree graph found) = findings_closing files found
