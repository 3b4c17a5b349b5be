-- The report on files whose texts are laid out.
use Rattle.std.proofs.Common.{◌≡◌, ◌≢◌, ◌∙◌, ℕ, Bool, true, false, flat_map, List, [], ◌∷◌, ◌++◌, Result, Ok, Err, IfOk, refl}
use Rattle.std.proofs.Common.{string_bytes}
use Rattle.std.specs.List.{list_any}
use Rattle.flt_commands.specs.Answer.{of_text}
use Rattle.flt_commands.specs.Commands.{IsKept, IsReported}
use Rattle.flt_commands_texts.specs.LayoutRemarks.{all_remarks, remark, remarked, unread_line}
use Rattle.flt_commands.specs.declared.report.Report.{Report}
use Rattle.flt_commands_explain.specs.declared.fault.CommandFault.{CommandFault}
use Rattle.flt_commands_texts.proofs.Formatting.{neither}
use Rattle.flt_commands_texts.specs.Format.{IsFormatKept}
use Rattle.flt_commands_texts.specs.Outcomes.{files_status, is_failed}
use Rattle.flt_commands_texts.specs.declared.answer.TextAnswer.TheVariants.{Formatted}
use Rattle.flt_commands_texts.specs.declared.outcomes.FileOutcome.{FileOutcome}
use Rattle.flt_commands_texts.specs.declared.outcomes.Outcome.{Outcome}
use Rattle.flt_commands_texts.specs.declared.outcomes.Outcomes.{Outcomes}
use Rattle.flt_commands_texts.specs.declared.outcomes.Outcome.TheVariants.{Same, Other, Unwritten, Fault, Long}
use Rattle.flt_files.specs.Attempts.{Attempt}
use Rattle.flt_files.specs.Inputs.{Text}
use Rattle.flt_files.specs.Unread.{status_beside}
use Rattle.flt_files.specs.declared.unread.UnreadFile.{UnreadFile}
use Rattle.flt_words.specs.Request.{Format}
use Rattle.flt_words.specs.declared.request.FormatMode.{FormatMode}
use Rattle.flt_words.specs.declared.request.FormatMode.TheVariants as modes

-- ---- what is written

-- what `format` leaves is what its answer says
pub kept_layouts : (written : Text → Text → Type 0) (does : List Attempt → Type 0) (mode : FormatMode) (files texts : List Text)
    (found : Outcomes) → IsFormatKept written does mode (Formatted mode found) →
    IsKept written does (Format mode files) texts (of_text (Ok (Formatted mode found)))
kept_layouts written does modes.Print files texts found is = is
kept_layouts written does modes.Check files texts found is = is
kept_layouts written does modes.Write files texts found is = (Ok (Formatted modes.Write found), refl, is)

-- ---- with the exit status 0 or 1 nothing is remarked

no_remark : (mode : FormatMode) (name : Text) (outcome : Outcome) → is_failed outcome ≡ false → remark mode name outcome ≡ []
no_remark mode name (Same bytes) fine = refl
no_remark mode name (Other bytes) fine = refl
no_remark mode name (Unwritten bytes why) fine = absurd (cc fine)
no_remark mode name (Fault f) fine = absurd (cc fine)
no_remark mode name Long fine = absurd (cc fine)

abbrev fails : FileOutcome → Bool
fails file = is_failed file.outcome

no_remarks : (mode : FormatMode) (files : List FileOutcome) → list_any fails files ≡ false → flat_map (remarked mode) files ≡ []
no_remarks mode [] fine = refl
no_remarks mode (file ∷ files) fine =
    let parts = neither (fails file) (list_any fails files) fine in
    rw (no_remark mode (string_bytes file.name) file.outcome parts.0, no_remarks mode files parts.1) refl

none_fails : (mode : FormatMode) (files : List FileOutcome) (b : Bool) → list_any fails files ≡ b → files_status mode files ≢ 2 →
    list_any fails files ≡ false
none_fails mode files true is good = absurd (good (rw is refl))
none_fails mode files false is good = is

none_remarked : (mode : FormatMode) (files : List FileOutcome) (unread : List UnreadFile) →
    status_beside (files_status mode files) unread ≢ 2 →
    flat_map unread_line unread ++ flat_map (remarked mode) files ≡ []
none_remarked mode files [] good = no_remarks mode files (none_fails mode files (list_any fails files) refl good)
none_remarked mode files (file ∷ others) good = absurd (good refl)

-- where a report on layouts doesn't end with status 2, nothing is remarked
pub quiet_formatted : (mode : FormatMode) (found : Outcomes) (before : List ℕ) (result : Result Report CommandFault) →
    before ≡ all_remarks mode found → IfOk result (λ report. IsReported (of_text (Ok (Formatted mode found))) report.output.items report.status) →
    IfOk result (λ report. report.status ≢ 2 → report.remark.items ≡ before) →
    IfOk result (λ report. report.status ≢ 2 → report.remark.items ≡ [])
quiet_formatted mode found before (Ok report) is reported same =
    λ good. same good ∙ is ∙ none_remarked mode found.files.items found.unread.items (λ two. good (reported.1 ∙ two))
quiet_formatted mode found before (Err e) is reported same = tt
