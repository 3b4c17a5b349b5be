-- Findings, as JSON. This project's own format.
use Rattle.std.specs.Prelude.{ℕ, List, [], ◌∷◌, ◌++◌, Option, Some, None, codes}
use Rattle.std.specs.Borrow.{Bor}
use Rattle.flt_rules.specs.Rule.{rule_name, text}
use Rattle.json.specs.Token.{Token, begin_object, end_object, key}
use Rattle.flt_explain_details.specs.declared.study.Detail.{Detail}
use Rattle.flt_explain_details.specs.declared.study.Route.{Route}
use Rattle.flt_explain_advice.specs.declared.words.Words.{Words}
use Rattle.flt_explain.specs.declared.finding.Finding.{Finding}
use Rattle.flt_graph.specs.declared.graph.Graph.{Graph}
use Rattle.flt_places.specs.Files.{file_at, file_name}
use Rattle.flt_places.specs.declared.files.Files.{Files}
use Rattle.flt_places.specs.declared.places.Region.{Region}
use Rattle.flt_tree.specs.Names.{Text}
use Rattle.flt_explain_parts.specs.Counted.{counted}
use Rattle.flt_explain_parts.specs.Members.{filled_member, line_of, string_member, text_member, number_member, null_member}
use Rattle.flt_explain_parts.specs.Points.{region_at}
use Rattle.flt_explain_forms.specs.Places.{marks_members}
use Rattle.flt_explain_forms.specs.Preface.{preface}
use Rattle.flt_explain_forms.specs.Steps.{kind_name, like_member, maker_member, steps, steps_member}

-- the number of the file in which a finding is
abbrev pub home_of : Files → Detail → ℕ
home_of files d = file_at files d.marks.statement.first.line

-- where it is
abbrev pub place : Files → ℕ → Detail → List Token
place files home d =
    number_member (codes "callback") d.finding.callback
    ++ (number_member (codes "point") d.finding.point ++ marks_members files home d.marks)

-- the rule that is broken
abbrev pub rule : Finding → List Token
rule f = string_member (codes "rule") (rule_name f.rule) ++ string_member (codes "text") (text f.rule)

-- what is said of it
abbrev pub words : Words → List Token
words w =
    text_member (codes "head") w.head.items ++ text_member (codes "message") w.title.items
    ++ text_member (codes "subject") w.subject.items ++ text_member (codes "help") w.help.items
    ++ filled_member (codes "note") w.note.items

-- what it is about comes to this at the end of the path
abbrev pub state : Option (Bor (List ℕ)) → List Token
state None = null_member (codes "state")
state (Some word) = string_member (codes "state") word.now

-- how it is reached
abbrev pub path : Files → ℕ → (ℕ → Region) → Route → List Token
path files home region r =
    key (codes "path") ∷ begin_object ∷ string_member (codes "kind") (kind_name r.kind)
    ++ (like_member r.like ++
    (key (codes "steps") ∷ (steps files home region r.stages
    ++ (steps_member files home region (codes "other") r.other ++ end_object ∷ []))))

-- where it comes from, and how it is reached
abbrev pub route : Files → ℕ → (ℕ → Region) → Route → List Token
route files home region r = state r.state ++ (maker_member files home (codes "origin") r.origin ++ path files home region r)

-- a finding of the file of a number, where the points of its callback are there, with its run
abbrev pub finding : Files → ℕ → (ℕ → Region) → List Token → Detail → List Token
finding files home region run d =
    begin_object ∷ preface (codes "finding") (file_name files home) ++ (place files home d
    ++ (rule d.finding ++ (words d.words ++ (route files home region d.route ++ (run ++ end_object ∷ [])))))

-- the line of a finding
abbrev pub finding_line : Files → Text → Graph → List Token → Detail → List ℕ
finding_line files text graph run d = line_of (finding files (home_of files d) (region_at text graph d.finding.callback) run d)

-- the line of the finding of a number, with the run of that number
abbrev pub numbered_line : Files → Text → Graph → (ℕ → List Token) → ℕ → Detail → List ℕ
numbered_line files text graph run number d = finding_line files text graph (run number) d

-- a line for each finding, in their order
abbrev pub finding_lines : Files → Text → Graph → (ℕ → List Token) → List Detail → List ℕ
finding_lines files text graph run details = counted (numbered_line files text graph run) 0 details
