-- What goes out before the end is whole lines.
use Rattle.std.proofs.Common.{◌≡◌, ◌∙◌, ℕ, ◌+◌, Bool, true, false, List, [], ◌∷◌, ◌++◌, Option, Some, None}
use Rattle.std.proofs.Common.{ap, append_assoc, codes, flat_map, inr, refl, sym, subst}
use Rattle.std.specs.Prelude.{decimal, if◌then◌else◌}
use Rattle.flt_c_drift.specs.declared.drift.Drift.{Drift}
use Rattle.flt_c_drift.specs.Line.{line_at, drift_line}
use Rattle.flt_c_drift.specs.DriftWords.{code, heading, help}
use Rattle.flt_c_drift.specs.Report.{drift_report, help_line, message, place_line, picture, report_at, sentence, shown_line}
use Rattle.flt_commands_explain.specs.Drifts.{drifts_told, gap, part, part_by}
use Rattle.flt_commands_explain.specs.Explain.{first_in}
use Rattle.flt_door.proofs.Lines.{line_ends, lines_both, lines_of_all, no_lines}
use Rattle.flt_door.specs.Lines.{AreWholeLines}
use Rattle.flt_explain_forms.specs.Clean.{clean, clean_lines, is_clean}
use Rattle.flt_explain_parts.specs.Counted.{counted}
use Rattle.flt_explain_forms.specs.DriftLines as objects
use Rattle.flt_explain_forms.specs.Lines.{IsPart, IsPrinted, warning_lines}
use Rattle.flt_explain_parts.specs.Members.{line_of}
use Rattle.flt_explain_forms.specs.Short as short
use Rattle.flt_explain_forms.specs.Warning.{warning_line}
use Rattle.flt_explain_forms.specs.declared.as_lines.Style.{Style}
use Rattle.flt_explain_forms.specs.declared.as_lines.Style.TheVariants.{Object, Sentence}
use Rattle.flt_explain_parts.specs.declared.drifted.DriftedFile.{DriftedFile}
use Rattle.flt_explain_texts.specs.Reports.{name_of}
use Rattle.flt_explain_texts.specs.declared.judged.TextJudgement.{TextJudgement}
use Rattle.flt_explain_texts.specs.declared.judged.TextJudgement.TheVariants.{Unread, Known}
use Rattle.flt_explain_texts.specs.declared.sources.Source.{Source}
use Rattle.flt_explain_warning_details.specs.declared.detail.WarningDetail.{WarningDetail}
use Rattle.flt_explain_warning_details.specs.declared.options.WarningOptions.{WarningOptions}
use Rattle.flt_files.specs.Inputs.{Text}
use Rattle.flt_places.specs.Places.{place_in}
use Rattle.flt_places.specs.declared.files.Files.{Files}
use Rattle.flt_tree.specs.declared.filter.Position.{Position}
use Rattle.flt_words.specs.declared.request.Form.{Form}
use Rattle.flt_words.specs.declared.request.Form.TheVariants.{Html, Human, Lines, LinesWithRuns, Sarif, SarifWithRuns, Short}
use Rattle.json.specs.Token.{Token}

-- what ends with a line feed
abbrev EndsLine : Text → Type 0
EndsLine z = (y : Text) × (z ≡ y ++ 10 ∷ [])

ends_after : (x z : Text) → EndsLine z → EndsLine (x ++ z)
ends_after x z (y, is) = (x ++ y, ap (λ w. x ++ w) is ∙ sym (append_assoc x y (10 ∷ [])))

feed_ends : EndsLine (codes "\n")
feed_ends = ([], refl)

-- lines of each of some things, by their numbers
counted_lines : {X : Type 0} (f : ℕ → X → Text) → ((n : ℕ) (x : X) → AreWholeLines (f n x)) → (n : ℕ) (xs : List X) →
    AreWholeLines (counted f n xs)
counted_lines f each n [] = no_lines
counted_lines f each n (x ∷ xs) = lines_both (f n x) (counted f (n + 1) xs) (each n x) (counted_lines f each (n + 1) xs)

unless_lines : (b : Bool) (z : Text) → AreWholeLines z → AreWholeLines (if b then z else [])
unless_lines true z are = are
unless_lines false z are = no_lines

-- ---- findings and warnings

first_lines : (style : Style) (run : ℕ → List Token) (s : Source) (judged : TextJudgement) (printed : Text) →
    IsPrinted style run s judged printed → AreWholeLines printed
first_lines Object run s (Unread f) printed is = inr (_, is.line)
first_lines Object run s (Known tree graph found) printed is =
    subst AreWholeLines (sym is.lines) (counted_lines _ (λ n d. line_ends _) 0 is.details)
first_lines Sentence run s (Unread f) printed is = inr (_, is.line)
first_lines Sentence run s (Known tree graph found) printed is =
    subst AreWholeLines (sym is.lines) (lines_of_all (short.finding_line s.files) (λ d. line_ends _) is.details)

short_by : (reason : Option Text) (files : Files) (d : WarningDetail) → AreWholeLines (short.warning_line_by reason files d)
short_by None files d = line_ends _
short_by (Some reason) files d = no_lines

warned_lines : (style : Style) (files : Files) (warned : List WarningDetail) → AreWholeLines (warning_lines style files warned)
warned_lines Object files warned = lines_of_all (warning_line files) (λ d. line_ends _) warned
warned_lines Sentence files warned = lines_of_all (short.warning_line files) (λ d. short_by d.reason files d) warned

last_lines : (style : Style) (name : Text) (judged : TextJudgement) (warned : List WarningDetail) →
    AreWholeLines (clean_lines style name judged warned)
last_lines Object name judged warned = unless_lines (is_clean judged warned) (line_of (clean name)) (line_ends _)
last_lines Sentence name judged warned = no_lines

-- what is printed of a text is whole lines
pub lines_of_text : (style : Style) (options : WarningOptions) (run : ℕ → List Token) (s : Source) (printed : Text) (status : ℕ) →
    IsPart style options run s printed status → AreWholeLines printed
lines_of_text style options run s printed status is =
    subst AreWholeLines (sym is.all)
    (lines_both is.first (warning_lines style s.files is.warned ++ clean_lines style (name_of s) is.judged is.warned)
    (first_lines style run s is.judged is.first is.lines)
    (lines_both (warning_lines style s.files is.warned) (clean_lines style (name_of s) is.judged is.warned)
    (warned_lines style s.files is.warned) (last_lines style (name_of s) is.judged is.warned)))

-- ---- drifts

message_ends : (file : Text) (d : Drift) → EndsLine (message file d)
unfolding message
message_ends file d =
    ends_after (heading d.kind) _ (ends_after (code d.kind) _ (ends_after (codes "]: ") _ (ends_after (sentence file d) _ feed_ends)))

line_ends_at : (name file : Text) (place : Position) (d : Drift) → AreWholeLines (line_at name file place d)
unfolding line_at
line_ends_at name file place d =
    inr (ends_after name _ (ends_after (codes ":") _ (ends_after (decimal place.line) _ (ends_after (codes ":") _
    (ends_after (decimal place.column) _ (ends_after (codes ": ") _ (message_ends file d)))))))

help_ends : (d : Drift) → EndsLine (help_line d)
unfolding help_line
help_ends d = ends_after (codes "   = help: ") _ (ends_after (help d.kind) _ feed_ends)

report_ends_at : (name file : Text) (place : Position) (d : Drift) → AreWholeLines (report_at name file place d)
unfolding report_at
report_ends_at name file place d =
    inr (ends_after (message file d) _ (ends_after (place_line name place) _
    (ends_after (picture place d.length (shown_line file d.start place)) _ (help_ends d))))

reports : (name file : Text) (found : List Drift) → AreWholeLines (flat_map (drift_report name file) found)
reports name file found = lines_of_all (drift_report name file) (λ d. report_ends_at name file (place_in file d.start) d) found

sentences : (name file : Text) (found : List Drift) → AreWholeLines (flat_map (drift_line name file) found)
sentences name file found = lines_of_all (drift_line name file) (λ d. line_ends_at name file (place_in file d.start) d) found

json_lines : (name file : Text) (found : List Drift) → AreWholeLines (flat_map (objects.drift_line name file) found)
json_lines name file found = lines_of_all (objects.drift_line name file) (λ d. line_ends _) found

part_lines : (form : Form) (name file : Text) (found : List Drift) → AreWholeLines (part_by form name file found)
part_lines Human name file found = unless_lines _ _ (reports name file found)
part_lines Html name file found = unless_lines _ _ (reports name file found)
part_lines Short name file found = unless_lines _ _ (sentences _ file found)
part_lines Lines name file found = unless_lines _ _ (json_lines name file found)
part_lines LinesWithRuns name file found = unless_lines _ _ (json_lines name file found)
part_lines Sarif name file found = no_lines
part_lines SarifWithRuns name file found = no_lines

gap_lines : (form : Form) (printed : Text) → AreWholeLines (gap form printed)
gap_lines form [] = no_lines
gap_lines Human (b ∷ printed) = inr ([], refl)
gap_lines Html (b ∷ printed) = inr ([], refl)
gap_lines Short (b ∷ printed) = no_lines
gap_lines Lines (b ∷ printed) = no_lines
gap_lines LinesWithRuns (b ∷ printed) = no_lines
gap_lines Sarif (b ∷ printed) = no_lines
gap_lines SarifWithRuns (b ∷ printed) = no_lines

told_lines : (form : Form) (drifted : List DriftedFile) → AreWholeLines (drifts_told form drifted)
told_lines form drifted =
    lines_both (flat_map (part form) drifted) (gap form (flat_map (part form) drifted))
    (lines_of_all (part form) (λ f. part_lines form f.name.now f.file.now f.drifts) drifted)
    (gap_lines form (flat_map (part form) drifted))

-- the drifts that come first are whole lines
pub lines_of_drifts : (form : Form) (drifted : List DriftedFile) → AreWholeLines (first_in form drifted)
lines_of_drifts Html drifted = no_lines
lines_of_drifts Human drifted = told_lines Human drifted
lines_of_drifts Short drifted = told_lines Short drifted
lines_of_drifts Lines drifted = told_lines Lines drifted
lines_of_drifts LinesWithRuns drifted = told_lines LinesWithRuns drifted
lines_of_drifts Sarif drifted = told_lines Sarif drifted
lines_of_drifts SarifWithRuns drifted = told_lines SarifWithRuns drifted
