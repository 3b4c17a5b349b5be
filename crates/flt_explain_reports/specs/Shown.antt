-- The lines of a file that show a finding, with marks. This project's own program.
use Rattle.std.specs.Prelude.{ℕ, Bool, List, [], ◌∷◌, ◌++◌, Option, Some, None}
use Rattle.flt_explain.specs.declared.finding.Finding.{Finding}
use Rattle.flt_graph.specs.Graph.{span_at}
use Rattle.flt_graph.specs.declared.graph.Graph.{Graph}
use Rattle.flt_explain_origins.specs.declared.facts.Fact.{Fact}
use Rattle.flt_explain_origins.specs.declared.origin.Cause.{Cause}
use Rattle.flt_explain_origins.specs.declared.origin.Cause.TheVariants.{Entry, Made}
use Rattle.flt_explain_origins.specs.declared.origin.Origin.{Origin}
use Rattle.flt_places.specs.Files.{file_at, file_line}
use Rattle.flt_places.specs.Places.{line_of, site_of}
use Rattle.flt_places.specs.declared.files.Files.{Files}
use Rattle.flt_tree.specs.Names.{Text}
use Rattle.flt_explain_origins.specs.declared.answer.Answer.{Answer}
use Rattle.flt_explain_origins.specs.declared.answer.Way.{Way}
use Rattle.flt_explain_origins.specs.Trace.{other_way, way_of}
use Rattle.flt_explain_origins.specs.declared.trace.FindingTrace.{FindingTrace}
use Rattle.flt_explain_reports.specs.Excerpts.{excerpt}
use Rattle.flt_explain_reports.specs.MarkOrder.{all_placed, greatest_line}
use Rattle.flt_explain_reports.specs.MarkWords.{mark_told}
use Rattle.flt_explain_reports.specs.Marks.{drawn, width}
use Rattle.flt_explain_reports.specs.declared.mark_order.Mark.{Mark}
use Rattle.flt_explain_reports.specs.declared.mark_words.Sign.{Sign}
use Rattle.flt_explain_reports.specs.declared.mark_words.Sign.TheVariants as sign
use Rattle.flt_explain_reports.specs.declared.marks.Stroke.{Stroke}
use Rattle.flt_explain_reports.specs.declared.marks.Stroke.TheVariants as strokes

-- ---- which marks

-- a mark at a point of a callback
abbrev pub mark_at : Text → Graph → ℕ → ℕ → Sign → Mark Sign
mark_at text g callback point shows = record { sign = shows; site = site_of text (span_at g callback point) }

-- the mark of the step that made a fact; none where the callback is entered with it
abbrev pub made_marks : Text → Graph → ℕ → Fact → Cause → List (Mark Sign)
made_marks text g callback f Entry = []
made_marks text g callback f (Made s) = mark_at text g callback s.point (sign.Origin f s) ∷ []

-- the mark of an origin, if one is known
abbrev pub origin_marks : Text → Graph → ℕ → Option Origin → List (Mark Sign)
origin_marks text g callback None = []
origin_marks text g callback (Some o) = made_marks text g callback o.fact o.cause

-- the mark of the point where a path meets another, if there are two
abbrev pub meeting_marks : Text → Graph → ℕ → Option Way → Option Way → List (Mark Sign)
meeting_marks text g callback (Some way) (Some other) = mark_at text g callback way.end.point sign.Meeting ∷ []
meeting_marks text g callback _ _ = []

-- the marks of a finding in the order of their lines: where it comes from, its point, and where the paths meet
unfoldable pub marks_of : Text → Graph → Finding → FindingTrace → List (Mark Sign)
marks_of text g found s =
    all_placed (all_placed (all_placed [] (origin_marks text g found.callback s.origin))
    (mark_at text g found.callback found.point sign.Point ∷ []))
    (meeting_marks text g found.callback (way_of s.answer) (other_way s.answer))

-- ---- how they are drawn

-- `^` under the point of a finding, `-` under what led there
unfoldable pub stroke : Sign → Stroke
stroke sign.Point = strokes.Error
stroke _ = strokes.Aside

-- the marks of a finding, each under what is shown for its line, with what it says, where this line was drawn before
unfoldable pub all_drawn : Bool → ℕ → Files → ℕ → Text → Graph → Finding → Text → Answer → ℕ → List (Mark Sign) → Text
all_drawn coloured margin files file text g found subject a before [] = []
all_drawn coloured margin files file text g found subject a before (m ∷ marks) =
    drawn coloured margin files file before (excerpt files text m.site.place.line) (line_of text m.site.place.line) m.site (stroke m.sign)
    ++ (mark_told g found subject a m.sign
    ++ all_drawn coloured margin files (file_at files m.site.place.line) text g found subject a (file_line files m.site.place.line) marks)

-- all of them
unfoldable pub shown_lines : Bool → Files → Text → Graph → Finding → Text → FindingTrace → Text
shown_lines coloured files text g found subject s =
    all_drawn coloured (width (greatest_line files 0 (marks_of text g found s))) files
    (file_at files (site_of text (span_at g found.callback found.point)).place.line) text g found subject s.answer 0
    (marks_of text g found s)
