-- What is said of all warnings of a text. This project's own program.
use Rattle.std.specs.Prelude.{◌≡◌, ◌⊎◌, ℕ, zero, suc, ◌+◌, if◌then◌else◌, List, [], ◌∷◌}
use Rattle.std.specs.Prelude.{◌++◌, flat_map, length, take, slice_get, Option, Some, None}
use Rattle.flt_places.specs.declared.files.Files.{Files}
use Rattle.flt_tree.specs.Names.{Text}
use Rattle.flt_tree.specs.declared.filter.Filter.{Filter}
use Rattle.flt_graph.specs.declared.graph.Graph.{Graph}
use Rattle.flt_cert.specs.Format.{Certificate}
use Rattle.flt_check.specs.Covering.{Covers}
use Rattle.flt_analyse.specs.Least.{IsLeast, NoneCovers}
use Rattle.flt_explain.specs.declared.finding.Finding.{Finding}
use Rattle.flt_explain_warnings.specs.Kinds.{allows}
use Rattle.flt_explain_warnings.specs.Warning.{kind_of, site_of}
use Rattle.flt_explain_warnings.specs.Warnings.{AreWarnings}
use Rattle.flt_explain_warnings.specs.declared.kinds.AllowedKinds.{AllowedKinds}
use Rattle.flt_explain_warnings.specs.declared.warning.Kind.TheVariants.{W00}
use Rattle.flt_explain_warnings.specs.declared.warning.Warning.{Warning}
use Rattle.flt_explain_warnings.specs.Allowances.{allowances_of}
use Rattle.flt_explain_warnings.specs.declared.allowance.Allowance.{Allowance}
use Rattle.flt_explain_warning_details.specs.Allowing.{is_needed, reason_for}
use Rattle.flt_explain_warning_details.specs.Comments.{idle_detail}
use Rattle.flt_explain_warning_details.specs.Parsed.{Parsed, parsed}
use Rattle.flt_explain_warning_details.specs.Saying.{circle_of, head_of, help_of, marks_of, note_of, related_of, title_of}
use Rattle.flt_explain_warning_details.specs.declared.detail.WarningDetail.{WarningDetail}

-- ---- of each warning

-- what is said of a warning, by the comments of the text
abbrev pub detail_of : Parsed → List Allowance → Warning → WarningDetail
detail_of x comments w = record {
  kind = kind_of w;
  site = site_of w;
  marks = marks_of x w;
  head = head_of x w;
  title = title_of x w;
  help = help_of x w;
  note = note_of x w;
  related = related_of x w;
  circle = circle_of w;
  reason = reason_for x comments w;
}

-- the same, if its kind isn't left out
abbrev pub detail_by : Parsed → AllowedKinds → List Allowance → Warning → List WarningDetail
detail_by x allowed comments w = if allows allowed (kind_of w) then [] else detail_of x comments w ∷ []

-- ---- of each comment that allows nothing

-- what is said of a comment, after some others
abbrev pub idle_by : Parsed → List Warning → List Allowance → Option Allowance → List WarningDetail
idle_by x ws before (Some a) = if is_needed x ws before a then [] else idle_detail x.files a ∷ []
idle_by x ws before None = []

-- the same of the comment of a number
abbrev pub idle_at : Parsed → List Allowance → List Warning → ℕ → List WarningDetail
idle_at x comments ws number = idle_by x ws (take number comments) (slice_get comments number)

-- the same of so many comments, from one on
unfoldable pub idle_from : Parsed → List Allowance → List Warning → ℕ → ℕ → List WarningDetail
idle_from x comments ws number zero = []
idle_from x comments ws number (suc n) = idle_at x comments ws number ++ idle_from x comments ws (number + 1) n

-- the same of all comments
abbrev pub idle : Parsed → List Allowance → List Warning → List WarningDetail
idle x comments ws = idle_from x comments ws 0 (length comments)

-- the same, unless W00 is left out
abbrev pub idle_unless : Parsed → AllowedKinds → List Allowance → List Warning → List WarningDetail
idle_unless x allowed comments ws = if allows allowed W00 then [] else idle x comments ws

-- ---- all

-- what is said of the warnings and of the comments
unfoldable pub details : Parsed → AllowedKinds → List Allowance → List Warning → List WarningDetail
details x allowed comments ws = flat_map (detail_by x allowed comments) ws ++ idle_unless x allowed comments ws

-- what is said by a certificate: of its warnings and of the comments of the text
pub record AreDetailsBy (files : Files) (text : Text) (f : Filter) (g : Graph) (k : Certificate) (allowed : AllowedKinds)
    (all : List WarningDetail) : Type 0 where
  pub ws : List Warning
  pub warned : AreWarnings g k ws
  pub said : all ≡ details (parsed files text f g) allowed (allowances_of text) ws

-- the least certificate, or none covers the text
abbrev pub IsLeastOf : Graph → Option Certificate → Type 0
IsLeastOf g (Some k) = Covers g k × IsLeast g k
IsLeastOf g None = NoneCovers g

-- a certificate covers the text, and by the least one this is said
pub record AreCertified (files : Files) (text : Text) (f : Filter) (g : Graph) (allowed : AllowedKinds) (all : List WarningDetail)
    : Type 0 where
  pub certificate : Certificate
  pub covers : Covers g certificate
  pub least : IsLeast g certificate
  pub details : AreDetailsBy files text f g certificate allowed all

-- none covers the text, and nothing is said
pub record IsUncovered (g : Graph) (all : List WarningDetail) : Type 0 where
  pub uncovered : NoneCovers g
  pub none : all ≡ []

-- what is said of the warnings of a text: nothing where something is found; else, by the least certificate, of its warnings and of the
-- comments that allow nothing
abbrev pub AreWarningDetails : Files → Text → Filter → Graph → List Finding → AllowedKinds → List WarningDetail → Type 0
AreWarningDetails files text f g (h ∷ hs) allowed all = all ≡ []
AreWarningDetails files text f g [] allowed all = AreCertified files text f g allowed all ⊎ IsUncovered g all
