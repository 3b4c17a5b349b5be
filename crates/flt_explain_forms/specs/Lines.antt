-- What is found of texts, line by line. This project's own formats.
use Rattle.std.specs.Prelude.{◌≡◌, ℕ, ◌+◌, List, [], ◌∷◌, ◌++◌, Option, flat_map, max}
use Rattle.std.specs.Borrow.{Bor}
use Rattle.flt_explain.specs.declared.finding.Finding.{Finding}
use Rattle.flt_explain_texts.specs.Reports.{IsJudged, name_of}
use Rattle.flt_explain_details.specs.Stages.{AreDetails}
use Rattle.flt_explain_texts.specs.declared.judged.TextJudgement.{TextJudgement}
use Rattle.flt_explain_texts.specs.declared.judged.TextJudgement.TheVariants.{Unread, Known}
use Rattle.flt_explain_texts.specs.declared.sources.Source.{Source}
use Rattle.flt_explain_details.specs.declared.study.Detail.{Detail}
use Rattle.flt_graph.specs.declared.graph.Graph.{Graph}
use Rattle.json.specs.Token.{Token}
use Rattle.flt_places.specs.declared.files.Files.{Files}
use Rattle.flt_tree.specs.Names.{Text}
use Rattle.flt_tree.specs.declared.filter.Filter.{Filter}
use Rattle.flt_explain_warning_details.specs.declared.detail.WarningDetail.{WarningDetail}
use Rattle.flt_explain_warning_details.specs.declared.options.WarningOptions.{WarningOptions}
use Rattle.flt_explain_parts.specs.Warned.{AreWarned, status_of}
use Rattle.flt_explain_flows.specs.declared.finding_run.FindingRun.{FindingRun}
use Rattle.flt_explain_forms.specs.Clean.{clean_lines}
use Rattle.flt_explain_forms.specs.Fault.{IsFaultLine}
use Rattle.flt_explain_forms.specs.Finding.{finding_lines}
use Rattle.flt_explain_forms.specs.RunMember.{run_members}
use Rattle.flt_explain_forms.specs.Short as short
use Rattle.flt_explain_forms.specs.Warning.{warning_line}
use Rattle.flt_explain_forms.specs.declared.as_lines.Style.{Style}
use Rattle.flt_explain_forms.specs.declared.as_lines.Style.TheVariants.{Object, Sentence}

-- one JSON object for each of these findings, in their order, with its run
pub record AreFindingLines (files : Files) (run : ℕ → List Token) (text : Text) (filter : Filter) (graph : Graph) (found : List Finding)
    (printed : List ℕ) : Type 0 where
  pub details : List Detail
  pub each : AreDetails files text filter graph found details
  pub lines : printed ≡ finding_lines files text graph run details

-- one sentence for each of these findings, in their order
pub record AreShortLines (files : Files) (text : Text) (filter : Filter) (graph : Graph) (found : List Finding)
    (printed : List ℕ) : Type 0 where
  pub details : List Detail
  pub each : AreDetails files text filter graph found details
  pub lines : printed ≡ flat_map (short.finding_line files) details

-- what is printed of a text: one line where it doesn't parse, else one for each finding; an object has its run, by the finding's number
abbrev pub IsPrinted : Style → (ℕ → List Token) → Source → TextJudgement → List ℕ → Type 0
IsPrinted Object run s (Unread f) printed = IsFaultLine s.files s.text.now printed
IsPrinted Object run s (Known tree graph found) printed = AreFindingLines s.files run s.text.now tree.filter graph found printed
IsPrinted Sentence run s (Unread f) printed = short.IsFaultLine s.files s.text.now printed
IsPrinted Sentence run s (Known tree graph found) printed = AreShortLines s.files s.text.now tree.filter graph found printed

-- one line for each of these warnings, in their order; no sentence where a comment allows one
abbrev pub warning_lines : Style → Files → List WarningDetail → List ℕ
warning_lines Object files warned = flat_map (warning_line files) warned
warning_lines Sentence files warned = flat_map (short.warning_line files) warned

-- what is printed of a text with its warnings last, or with the line of one in which there is nothing, and its status,
-- which comes of the same findings and warnings
pub record IsPart (style : Style) (options : WarningOptions) (run : ℕ → List Token) (s : Source) (printed : List ℕ) (status : ℕ)
    : Type 0 where
  pub judged : TextJudgement
  pub is : IsJudged s.text.now judged
  pub warned : List WarningDetail
  pub are : AreWarned s options.allowed judged warned
  pub own : status ≡ status_of options.is_strict judged warned
  pub first : List ℕ
  pub lines : IsPrinted style run s judged first
  pub all : printed ≡ first ++ (warning_lines style s.files warned ++ clean_lines style (name_of s) judged warned)

-- the lines of several texts, of which the first has this number, after what is there, in the order of the texts; the status is the
-- greatest of theirs. Their findings have these runs, by the number of the text and by their own
abbrev pub AreLinesFrom : Style → WarningOptions → (ℕ → ℕ → List Token) → ℕ → List Source → List ℕ → List ℕ → ℕ → Type 0
AreLinesFrom style options runs number [] before printed status = (printed ≡ before) × (status ≡ 0)
AreLinesFrom style options runs number (s ∷ ss) before printed status =
    (part : List ℕ) × (first : ℕ) × (others : ℕ) × IsPart style options (runs number) s part first
    × AreLinesFrom style options runs (number + 1) ss (before ++ part) printed others × (status ≡ max first others)

-- the lines of several texts, with these runs of their findings, or without a word on runs
abbrev pub AreLines : Style → WarningOptions → List Source → Option (Bor (List FindingRun)) → List ℕ → ℕ → Type 0
AreLines style options sources runs printed status = AreLinesFrom style options (run_members sources runs) 0 sources [] printed status
