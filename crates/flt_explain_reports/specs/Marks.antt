-- Lines of a text with marks under them. This project's own program.
use Rattle.std.specs.Prelude.{ℕ, ◌==◌, ◌&&◌, ◌||◌, ◌-◌, Bool, false, if◌then◌else◌, [], ◌∷◌, ◌++◌, Option}
use Rattle.std.specs.Prelude.{Some, None, codes, drop, length, max, min, replicate, slice_get, take}
use Rattle.std.specs.Fmt.{decimal}
use Rattle.std.specs.Int.{is_in_range}
use Rattle.std.specs.List.{count_by}
use Rattle.flt_tree.specs.Names.{Text}
use Rattle.flt_shown.specs.Shown.{shown}
use Rattle.flt_places.specs.Files.{behind, file_at, file_line, file_name}
use Rattle.flt_places.specs.declared.files.Files.{Files}
use Rattle.flt_places.specs.declared.places.Site.{Site}
use Rattle.flt_explain_reports.specs.Colours.{blue, plain, red, yellow}
use Rattle.flt_explain_reports.specs.Excerpts.{Excerpt}
use Rattle.flt_explain_reports.specs.declared.marks.Stroke.{Stroke}
use Rattle.flt_explain_reports.specs.declared.marks.Stroke.TheVariants as strokes

-- ---- lines

-- how many digits a number has
abbrev pub width : ℕ → ℕ
width n = length (decimal n)

-- whether a line's last byte is a carriage return
abbrev pub is_return : Option ℕ → Bool
is_return None = false
is_return (Some b) = b == 13

-- a line without the carriage return that may end it
unfoldable pub without_return : Text → Text
without_return line = if is_return (slice_get line (length line - 1)) then take (length line - 1) line else line

-- the bar behind the numbers of lines
abbrev pub bar : Bool → Text
bar coloured = blue coloured ++ codes " | " ++ plain coloured

-- dots between lines of a file that aren't neighbours; 0 for the line before where there is none
unfoldable pub dots : ℕ → ℕ → Text
dots before number = if before == 0 || number - 1 == before then [] else codes "..." ++ 10 ∷ []

-- between a line of the text and the line of this file that was drawn before: the name of its file, where this one isn't the file that is
-- named, else dots
unfoldable pub gap : Files → ℕ → ℕ → ℕ → Text
gap files file before number =
    if file_at files number == file then dots before (file_line files number)
    else codes "  ::: " ++ (shown (file_name files (file_at files number)) ++ 10 ∷ [])

-- a line of the text, with its number as far right as the margin is wide
unfoldable pub numbered_line : Bool → ℕ → ℕ → Text → Text
numbered_line coloured margin number line =
    replicate (margin - width number) 32 ++ blue coloured ++ decimal number ++ codes " | " ++ plain coloured ++ shown line ++ 10 ∷ []

-- ---- marks

-- `^` under what a report is about, `-` under what else it shows
unfoldable pub sign_of : Stroke → ℕ
sign_of strokes.Error = 94
sign_of strokes.Warning = 94
sign_of strokes.Aside = 45

-- the colour of these signs
unfoldable pub colour_of : Bool → Stroke → Text
colour_of coloured strokes.Error = red coloured
colour_of coloured strokes.Warning = yellow coloured
colour_of coloured strokes.Aside = blue coloured

-- how many bytes of a text continue a character
abbrev pub continued : Text → ℕ
continued z = count_by (is_in_range 0x80 0xBF) z

-- how many columns so many first bytes of a line take where they are shown: one for each character
abbrev pub columns : Text → ℕ → ℕ
columns line count = count - continued (shown (take count line))

-- how many bytes of a site are on its first line
abbrev pub bytes_marked : Text → Site → ℕ
bytes_marked line site = min (length line - (site.place.column - 1)) site.length

-- how many signs mark a site: as many as its bytes there have columns, at least one
unfoldable pub signs : Text → Site → ℕ
signs line site = max (columns (drop (site.place.column - 1) line) (bytes_marked line site)) 1

-- how many columns are before a site where its line is shown so
abbrev pub columns_before : Excerpt → Site → ℕ
columns_before excerpt site = columns excerpt.bytes (behind excerpt.before site.place.column - 1)

-- signs under a site in a line that is shown so
unfoldable pub marked : Bool → ℕ → Excerpt → Text → Site → Stroke → Text
marked coloured margin excerpt line site stroke =
    replicate margin 32 ++ bar coloured ++ replicate (columns_before excerpt site) 32
    ++ colour_of coloured stroke ++ replicate (signs line site) (sign_of stroke) ++ plain coloured

-- the line of its file for a line of the text; nothing where it is the one that was drawn before
unfoldable pub line_once : Bool → ℕ → Files → ℕ → ℕ → Text → ℕ → Text
line_once coloured margin files file before line number =
    if file_at files number == file && file_line files number == before then []
    else gap files file before number ++ numbered_line coloured margin (file_line files number) line

-- the line of a site as it is, with signs under the site
unfoldable pub drawn_alone : Bool → ℕ → Text → Site → Stroke → Text
drawn_alone coloured margin line site stroke =
    numbered_line coloured margin site.place.line (without_return line)
    ++ marked coloured margin (record { bytes = line; before = 0 }) (without_return line) site stroke

-- a site with signs under it, below what is shown for its line
unfoldable pub drawn : Bool → ℕ → Files → ℕ → ℕ → Excerpt → Text → Site → Stroke → Text
drawn coloured margin files file before excerpt line site stroke =
    line_once coloured margin files file before (without_return excerpt.bytes) site.place.line
    ++ marked coloured margin excerpt (without_return line) site stroke
