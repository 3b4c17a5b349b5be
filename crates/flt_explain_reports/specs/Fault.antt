-- The report of a text that doesn't parse. This project's own program.
use Rattle.std.specs.Prelude.{◌≡◌, ◌==◌, Bool, if◌then◌else◌, ℕ, [], ◌∷◌, ◌++◌, Option, Some, None, length}
use Rattle.flt_explain_hints.specs.declared.open_call.OpenCall.{OpenCall}
use Rattle.flt_explain_hints.specs.Telling.{meant_of, notes_of, title_of}
use Rattle.flt_explain_hints.specs.Trouble.{IsDescribed}
use Rattle.flt_explain_hints.specs.declared.spot.Spot.{Spot}
use Rattle.flt_explain_hints.specs.declared.troubles.Trouble.{Trouble}
use Rattle.flt_places.specs.Files.{file_at, file_line}
use Rattle.flt_places.specs.Places.{line_of}
use Rattle.flt_places.specs.declared.files.Files.{Files}
use Rattle.flt_places.specs.declared.places.Site.{Site}
use Rattle.flt_syntax.specs.declared.token.Token.{Token}
use Rattle.flt_tree.specs.Names.{Text}
use Rattle.flt_tree.specs.declared.filter.Position.{Position}
use Rattle.flt_explain_texts.specs.Closing.{fault_name}
use Rattle.flt_explain_texts.specs.Page.{line_told}
use Rattle.flt_shown.specs.Shown.{shown}
use Rattle.flt_explain_reports.specs.Excerpts.{excerpt}
use Rattle.flt_explain_reports.specs.Heading.{at_file_place, heading, name_at}
use Rattle.flt_explain_reports.specs.Marks.{drawn, width}
use Rattle.flt_explain_reports.specs.declared.marks.Stroke.TheVariants as strokes

-- where a text is refused, and what stands there
abbrev pub place_of : Spot → Position
place_of s = record { line = s.fault.line; column = s.fault.column }

abbrev pub site_of : Spot → Site
site_of s = record { place = place_of s; length = length s.bytes.now }

-- which word is probably meant; nothing where there is none
abbrev pub meant_told : Text → Text
meant_told meant = if length meant == 0 then [] else 32 ∷ shown meant

-- what is shown for the line in which a text is refused, with marks under what stands there, and which word is meant
unfoldable pub spot_drawn : Bool → Files → Text → Spot → Text → Text
spot_drawn coloured files text s meant =
    drawn coloured (width (file_line files s.fault.line)) files (file_at files s.fault.line) 0 (excerpt files text s.fault.line)
    (line_of text s.fault.line) (site_of s) strokes.Error
    ++ (meant_told meant ++ 10 ∷ [])

-- the same; nothing where the text is so large that it isn't cut into tokens
unfoldable pub picture : Bool → Files → Text → Spot → Text → Option Token → Text
picture coloured files text s meant None = []
picture coloured files text s meant (Some token) = spot_drawn coloured files text s meant

-- what is wrong and where, the line with its marks, and how to fix it
unfoldable pub fault_report : Bool → Files → Text → Spot → Text → Text → Text → Text
fault_report coloured files text s title meant notes =
    heading coloured (Some (fault_name s.fault.kind)) title (name_at files s.fault.line) ++ (at_file_place files (place_of s)
    ++ (10 ∷ (picture coloured files text s meant s.token ++ notes)))

-- the name of the line of a call that isn't complete, where the file of this number is clear; nothing where there is none
abbrev pub line_by : Files → ℕ → Option OpenCall → Text
line_by files home None = []
line_by files home (Some call) = line_told files home call.line

abbrev pub line_of_call : Files → Trouble → Text
line_of_call files t = line_by files (file_at files t.spot.fault.line) t.open_call

-- the report of a text's trouble, in the words that say it
unfoldable pub trouble_report : Bool → Files → Text → Trouble → Text
trouble_report coloured files text t =
    fault_report coloured files text t.spot (title_of t) (meant_of t) (notes_of t (line_of_call files t))

-- the same; nothing where it has no trouble
abbrev pub report_of : Bool → Files → Text → Option Trouble → Text
report_of coloured files text None = []
report_of coloured files text (Some t) = trouble_report coloured files text t

-- these lines are the report of a text that doesn't parse; there are none where it does
pub record IsFaultReport (coloured : Bool) (files : Files) (text lines : Text) : Type 0 where
  pub trouble : Option Trouble
  pub described : IsDescribed text trouble
  pub told : lines ≡ report_of coloured files text trouble
