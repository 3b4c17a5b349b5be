-- The report of a warning. This project's own program.
use Rattle.std.specs.Prelude.{ℕ, ◌==◌, ◌+◌, ◌-◌, Bool, if◌then◌else◌, List, [], ◌∷◌, ◌++◌, Option, Some, None, codes, length, slice_get}
use Rattle.flt_shown.specs.Shown.{shown}
use Rattle.flt_explain_texts.specs.declared.operands.Marks.{Marks}
use Rattle.flt_places.specs.Files.{file_at, file_line}
use Rattle.flt_places.specs.Places.{line_of}
use Rattle.flt_places.specs.declared.files.Files.{Files}
use Rattle.flt_places.specs.declared.places.Region.{Region}
use Rattle.flt_places.specs.declared.places.Site.{Site}
use Rattle.flt_tree.specs.Names.{Text}
use Rattle.flt_explain_warning_details.specs.declared.detail.RelatedPlace.{RelatedPlace}
use Rattle.flt_explain_warning_details.specs.declared.detail.WarningDetail.{WarningDetail}
use Rattle.flt_explain_warnings.specs.Kinds.{kind_name}
use Rattle.flt_explain_warnings.specs.declared.warning.Site.{Site as Point}
use Rattle.flt_explain_reports.specs.Excerpts.{excerpt}
use Rattle.flt_explain_reports.specs.Finding.{head_told, help_told, note_told, numbers_told}
use Rattle.flt_explain_reports.specs.Heading.{at_file_place, name_at, warning_heading}
use Rattle.flt_explain_reports.specs.MarkOrder.{all_placed, greatest_line}
use Rattle.flt_explain_reports.specs.Marks.{drawn, width}
use Rattle.flt_explain_reports.specs.declared.mark_order.Mark.{Mark}
use Rattle.flt_explain_reports.specs.declared.marks.Stroke.{Stroke}
use Rattle.flt_explain_reports.specs.declared.marks.Stroke.TheVariants as strokes

-- ---- what it says, and where

-- the head of a callback; nothing where there is none
unfoldable pub head_part : Text → Text
head_part head = if length head == 0 then [] else head_told head

-- the numbers of a callback and a point, if there are any, and the line's end
abbrev pub point_part : Option Point → Text
point_part None = 10 ∷ []
point_part (Some p) = numbers_told p.callback p.point

-- a warning's kind and title, the file, and where it is
unfoldable pub head_lines : Bool → Files → WarningDetail → Text
head_lines coloured files d =
    warning_heading coloured (kind_name d.kind) d.title (name_at files d.marks.statement.first.line)
    ++ (at_file_place files d.marks.statement.first ++ (head_part d.head ++ point_part d.site))

-- ---- the places

-- what of a region is on its first line
unfoldable pub site_of : Text → Region → Site
site_of text r = record {
  place = r.first;
  length = if r.end.line == r.first.line then r.end.column - r.first.column else length (line_of text r.first.line);
}

-- a mark at a place: at that of the related place of a number, or at the warning's own
abbrev pub mark_at : Text → Marks → Option ℕ → Mark (Option ℕ)
mark_at text marks related = record { sign = related; site = site_of text marks.statement }

-- the marks of related places, from this number on
abbrev pub related_marks : Text → ℕ → List RelatedPlace → List (Mark (Option ℕ))
related_marks text number [] = []
related_marks text number (r ∷ related) = mark_at text r.marks (Some number) ∷ related_marks text (number + 1) related

-- all of them in the order of their lines: a related place after the warning's own on the same line
unfoldable pub marks_of : Text → WarningDetail → List (Mark (Option ℕ))
marks_of text d = all_placed (all_placed [] (mark_at text d.marks None ∷ [])) (related_marks text 0 d.related)

-- `^` under the warning's own place, `-` under the others
unfoldable pub stroke : Option ℕ → Stroke
stroke None = strokes.Warning
stroke (Some number) = strokes.Aside

-- what is said of a related place
abbrev pub words_of : Option RelatedPlace → Text
words_of None = 10 ∷ []
words_of (Some r) = codes " " ++ (shown r.words ++ 10 ∷ [])

-- what is behind a mark: nothing at the warning's own place
unfoldable pub mark_words : List RelatedPlace → Option ℕ → Text
mark_words related None = 10 ∷ []
mark_words related (Some number) = words_of (slice_get related number)

-- each mark under what is shown for its line, with what it says, where this line was drawn before
unfoldable pub all_drawn : Bool → ℕ → Files → ℕ → Text → List RelatedPlace → ℕ → List (Mark (Option ℕ)) → Text
all_drawn coloured margin files file text related before [] = []
all_drawn coloured margin files file text related before (m ∷ marks) =
    drawn coloured margin files file before (excerpt files text m.site.place.line) (line_of text m.site.place.line) m.site (stroke m.sign)
    ++ (mark_words related m.sign
    ++ all_drawn coloured margin files (file_at files m.site.place.line) text related (file_line files m.site.place.line) marks)

-- all of them
unfoldable pub places_drawn : Bool → Files → Text → WarningDetail → Text
places_drawn coloured files text d =
    all_drawn coloured (width (greatest_line files 0 (marks_of text d))) files (file_at files d.marks.statement.first.line) text d.related 0
    (marks_of text d)

-- ---- all of it

-- what a warning says and where, its places, what to write, and what may come of it
unfoldable pub warning_report : Bool → Files → Text → WarningDetail → Text
warning_report coloured files text d =
    head_lines coloured files d ++ (places_drawn coloured files text d ++ (help_told d.help ++ note_told d.note))
