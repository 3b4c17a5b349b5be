-- Reports of warnings, one after the other.
use Rattle.std.proofs.Common.{◌≡◌, ◌<◌, ◌+◌, ℕ, List, [], ◌∷◌, ◌++◌, sym, ap, ◌∙◌, get_or, length, take}
use Rattle.std.proofs.lemmas.List.{take_more}
use Rattle.flt_explain_warning_details.specs.declared.detail.WarningDetail.{WarningDetail}
use Rattle.flt_explain_runs.specs.Warned.{Warned}
use Rattle.flt_explain_runs.specs.Warnings.{AreShownReports, IsShownReport, one_report_more}

-- one report more
pub reports_more : (x : Warned) (ds : List WarningDetail) (i : ℕ) (d : WarningDetail) (printed own new : List ℕ) → i < length ds →
    d ≡ get_or ds i d → AreShownReports x (take i ds) printed → IsShownReport x d own → new ≡ printed ++ own →
    AreShownReports x (take (i + 1) ds) new
reports_more x ds i d printed own new h is all one added =
    rw (take_more ds i d h ∙ ap (λ z. take i ds ++ z ∷ []) (sym is), added) (one_report_more d own all one)
