-- What is printed of a text in which nothing is found: what that promises, and its warnings. This project's own program.
use Rattle.std.specs.Prelude.{◌≡◌, ℕ, ◌==◌, Bool, true, false, if◌then◌else◌, List, [], ◌∷◌, ◌++◌, codes}
use Rattle.std.specs.Fmt.{decimal}
use Rattle.flt_explain_reports.specs.Reports.{nothing_report}
use Rattle.flt_explain_reports.specs.WarningReport.{warning_report}
use Rattle.flt_explain_warning_details.specs.Options.{is_shown, shown_count}
use Rattle.flt_explain_warning_details.specs.declared.detail.WarningDetail.{WarningDetail}
use Rattle.flt_explain_runs.specs.Deadlocked.{AreRunLines}
use Rattle.flt_explain_runs.specs.Lines.{plural}
use Rattle.flt_explain_runs.specs.Warned.{Warned}

-- the report of a warning, and below it the run to the deadlock that it is about
pub record IsReportWithRun (x : Warned) (d : WarningDetail) (printed : List ℕ) : Type 0 where
  pub run : List ℕ
  pub are : AreRunLines x d.circle run
  pub whole : printed ≡ warning_report x.coloured x.files x.text d ++ run

-- the same, if it is shown
abbrev pub IsReportIf : Bool → Warned → WarningDetail → List ℕ → Type 0
IsReportIf true x d printed = IsReportWithRun x d printed
IsReportIf false x d printed = printed ≡ []

-- the same, unless a comment of the text allows the warning
abbrev pub IsShownReport : Warned → WarningDetail → List ℕ → Type 0
IsShownReport x d printed = IsReportIf (is_shown d) x d printed

-- the reports of the warnings that no comment allows, one below the other
pub data AreShownReports (x : Warned) : List WarningDetail → List ℕ → Type 0 where
  no_report : AreShownReports x [] []
  one_report_more : {ds : List WarningDetail} {printed : List ℕ} (d : WarningDetail) (own : List ℕ) →
      AreShownReports x ds printed → IsShownReport x d own → AreShownReports x (ds ++ d ∷ []) (printed ++ own)

-- how many warnings there are
abbrev pub warning_count : ℕ → List ℕ
warning_count n = decimal n ++ codes " warning" ++ plural n

-- the line that says so; nothing where there are none
abbrev pub warnings_line : ℕ → List ℕ
warnings_line n = if n == 0 then [] else warning_count n ++ 10 ∷ []

-- what a text promises in which nothing is found, the reports of its warnings, and how many they are
pub record ArePromised (x : Warned) (details : List WarningDetail) (printed : List ℕ) : Type 0 where
  pub reports : List ℕ
  pub are : AreShownReports x details reports
  pub whole : printed ≡ nothing_report x.files ++ reports ++ warnings_line (shown_count details)
