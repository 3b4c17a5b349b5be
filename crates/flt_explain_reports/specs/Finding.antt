-- The report of findings that are put together. This project's own program.
use Rattle.std.specs.Prelude.{ℕ, ◌==◌, ◌&&◌, Bool, true, false, if◌then◌else◌, List, [], ◌∷◌, ◌++◌, Option, Some, None, codes, length, map}
use Rattle.std.specs.Fmt.{decimal}
use Rattle.std.specs.List.{slice_split}
use Rattle.flt_explain.specs.declared.finding.Finding.{Finding}
use Rattle.flt_graph.specs.Graph.{span_at}
use Rattle.flt_graph.specs.declared.graph.Graph.{Graph}
use Rattle.flt_explain_origins.specs.declared.grouping.TracedFinding.{TracedFinding}
use Rattle.flt_places.specs.Files.{file_at, file_line}
use Rattle.flt_places.specs.Places.{place_in}
use Rattle.flt_places.specs.declared.files.Files.{Files}
use Rattle.flt_tree.specs.Names.{Text}
use Rattle.flt_tree.specs.declared.filter.Position.{Position}
use Rattle.flt_explain_origins.specs.declared.answer.Answer.{Answer}
use Rattle.flt_explain_origins.specs.declared.answer.Answer.TheVariants as answer
use Rattle.flt_explain_texts.specs.Page.{line_told}
use Rattle.flt_shown.specs.Shown.{shown}
use Rattle.flt_rules.specs.Rule.{rule_name}
use Rattle.flt_explain_origins.specs.Trace.{other_way, way_of}
use Rattle.flt_explain_advice.specs.declared.words.Words.{Words}
use Rattle.flt_explain_origins.specs.declared.trace.FindingTrace.{FindingTrace}
use Rattle.flt_explain_reports.specs.Heading.{at_file_place, heading, name_at}
use Rattle.flt_explain_reports.specs.Indents.{headed}
use Rattle.flt_explain_reports.specs.Shown.{shown_lines}
use Rattle.flt_explain_reports.specs.Ways.{path_lines}

-- ---- what is wrong, and where

-- the head of a callback between marks
unfoldable pub head_told : Text → Text
head_told head = codes ", `" ++ (shown head ++ codes "`")

-- the numbers of a callback and a point
unfoldable pub numbers_told : ℕ → ℕ → Text
numbers_told callback point = codes " (callback " ++ (decimal callback ++ (codes " point " ++ (decimal point ++ (codes ")" ++ 10 ∷ []))))

-- where a point of a callback begins
abbrev pub place_of : Text → Graph → ℕ → ℕ → Position
place_of text g callback point = place_in text (span_at g callback point).start

-- a finding's rule and title, the file, and its point
unfoldable pub head_lines : Bool → Files → Text → Graph → Finding → Words → Text
head_lines coloured files text g found w =
    heading coloured (Some (rule_name found.rule)) w.title.items (name_at files (place_of text g found.callback found.point).line)
    ++ (at_file_place files (place_of text g found.callback found.point)
    ++ (head_told w.head.items ++ numbers_told found.callback found.point))

-- the file that is named in its heading
abbrev pub home_of : Files → Text → Graph → Finding → ℕ
home_of files text g found = file_at files (place_of text g found.callback found.point).line

-- ---- the paths to it

-- a line that says more
abbrev pub note_line : Text → Text
note_line words = codes "   = note: " ++ (words ++ 10 ∷ [])

-- what is said of the paths
unfoldable pub notes : Answer → Text
notes (answer.Clean found) = []
notes (answer.Behind found) = note_line (codes "each path that was found breaks another rule before: fix that first")
notes answer.Unreached =
    note_line (codes "no path leads here: the text is refused because the sets of the rules forget what goes together")
    ++ (codes "   = help: test the variable itself, as by `if c0 != NULL`, and not what it depends on" ++ 10 ∷ [])
notes answer.Unknown = note_line (codes "no path was found among the situations that were looked at")

-- the branches of the path that shows it, and of the other one where two do
unfoldable pub paths_told : Files → ℕ → Text → Graph → ℕ → Answer → Text
paths_told files home text g callback a =
    path_lines files home text g callback (codes "   = path: ") (way_of a)
    ++ (path_lines files home text g callback (codes "   = other path: ") (other_way a) ++ notes a)

-- the lines that show a finding, and the paths to it; nothing where it isn't known what shows it
unfoldable pub shown_part : Bool → Files → ℕ → Text → Graph → Finding → Text → Option FindingTrace → Text
shown_part coloured files home text g found subject None = []
shown_part coloured files home text g found subject (Some s) =
    shown_lines coloured files text g found subject s ++ paths_told files home text g found.callback s.answer

-- ---- the others of its group

-- two lines of a text are in the same line of a file
abbrev pub is_same_line : Files → ℕ → ℕ → Bool
is_same_line files line other = file_at files line == file_at files other && file_line files line == file_line files other

-- what stands before the first of some numbers of lines, and before each other one
unfoldable pub before_line : Bool → Text
before_line is_below = if is_below then codes ", " else codes "   = note: also at line "

-- the numbers of lines, without those that are in the same line of a file as the one before; another one may stand before the first, which
-- is then this one. Nothing where there are none
abbrev pub listed_from : Files → ℕ → Bool → ℕ → List ℕ → Text
listed_from files home is_below before [] = if is_below then 10 ∷ [] else []
listed_from files home is_below before (n ∷ ns) =
    if is_below && is_same_line files before n then listed_from files home is_below before ns
    else before_line is_below ++ (line_told files home n ++ listed_from files home true n ns)

-- the lines on which the others of a group stand, each once
unfoldable pub others_told : Files → ℕ → List TracedFinding → Text
others_told files home others = listed_from files home false 0 (map (λ (t : TracedFinding). t.finding.line) others)

-- ---- how to fix it

-- a line as it is shown
abbrev pub shown_line : Text → Text
shown_line line = shown line ++ 10 ∷ []

-- how to fix it: further lines stand under the first
unfoldable pub help_told : Text → Text
help_told help = headed (codes "   = help: ") (map shown_line (slice_split (λ b. b == 10) help))

-- what else is said of it, if there is more
unfoldable pub note_told : Text → Text
note_told note = if length note == 0 then [] else headed (codes "   = note: ") (shown_line note ∷ [])

-- ---- all of it

-- what is wrong and where, what shows it, where the others of its group are, and how to fix it
unfoldable pub finding_report : Bool → Files → Text → Graph → Finding → Words → Option FindingTrace → List TracedFinding → Text
finding_report coloured files text g found w s others =
    head_lines coloured files text g found w
    ++ (shown_part coloured files (home_of files text g found) text g found w.subject.items s
    ++ (others_told files (home_of files text g found) others ++ (help_told w.help.items ++ note_told w.note.items)))
