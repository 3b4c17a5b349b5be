-- What is found of texts, a sentence a line, as compilers say it. This project's own format.
use Rattle.std.specs.Prelude.{◌≡◌, ℕ, List, [], ◌∷◌, ◌++◌, Option, Some, None, codes}
use Rattle.std.specs.Fmt.{decimal}
use Rattle.flt_rules.specs.Rule.{rule_name}
use Rattle.flt_explain_texts.specs.Closing.{fault_name}
use Rattle.flt_explain_details.specs.declared.study.Detail.{Detail}
use Rattle.flt_explain_hints.specs.Telling.{title_of}
use Rattle.flt_explain_hints.specs.Trouble.{IsDescribed}
use Rattle.flt_explain_hints.specs.declared.troubles.Trouble.{Trouble}
use Rattle.flt_places.specs.Files.{file_at, file_name, file_place}
use Rattle.flt_places.specs.declared.files.Files.{Files}
use Rattle.flt_syntax.specs.declared.fault.SyntaxFault.{SyntaxFault}
use Rattle.flt_tree.specs.declared.filter.Position.{Position}
use Rattle.flt_explain_warnings.specs.Kinds.{kind_name}
use Rattle.flt_explain_warning_details.specs.declared.detail.WarningDetail.{WarningDetail}
use Rattle.flt_explain_parts.specs.Help.{place_of}

-- words behind a head, and a line feed
abbrev pub sentence : List ℕ → List ℕ → List ℕ
sentence head words = head ++ words ++ 10 ∷ []

-- `LEVEL[RULE]`
abbrev pub tag : List ℕ → List ℕ → List ℕ
tag level rule = level ++ codes "[" ++ rule ++ codes "]"

-- `FILE:LINE:COLUMN: TAG: `
abbrev pub tagged : List ℕ → ℕ → ℕ → List ℕ → List ℕ
tagged name line column tag =
    name ++ codes ":" ++ decimal line ++ codes ":" ++ decimal column ++ codes ": " ++ tag ++ codes ": "

-- `FILE:LINE:COLUMN: LEVEL[RULE]: `, of a place of a text in its file
abbrev pub head : Files → Position → List ℕ → List ℕ → List ℕ
head files at level rule =
    tagged (file_name files (file_at files at.line)) (file_place files at).line (file_place files at).column (tag level rule)

-- the line of a finding: where it stands, its rule, and its title
abbrev pub finding_line : Files → Detail → List ℕ
finding_line files d =
    sentence (head files d.marks.statement.first (codes "error") (rule_name d.finding.rule)) d.words.title.items

-- the line of a warning: where it is, its kind, and its title
abbrev pub shown_line : Files → WarningDetail → List ℕ
shown_line files d =
    sentence (head files d.marks.statement.first (codes "warning") (kind_name d.kind)) d.title

-- none where a comment allows it, for a reason
abbrev pub warning_line_by : Option (List ℕ) → Files → WarningDetail → List ℕ
warning_line_by None files d = shown_line files d
warning_line_by (Some reason) files d = []

abbrev pub warning_line : Files → WarningDetail → List ℕ
warning_line files d = warning_line_by d.reason files d

-- the line of a fault
abbrev pub fault_line : Files → SyntaxFault → List ℕ → List ℕ
fault_line files f words = sentence (head files (place_of f) (codes "error") (fault_name f.kind)) words

-- the line of a text that doesn't parse: its first fault, and what is said of it
pub record IsFaultLine (files : Files) (text printed : List ℕ) : Type 0 where
  pub trouble : Trouble
  pub described : IsDescribed text (Some trouble)
  pub line : printed ≡ fault_line files trouble.spot.fault (title_of trouble)
