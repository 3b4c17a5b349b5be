-- The request of each command, by the values of its arguments. This project's own program.
use Rattle.std.specs.List.{list_all, list_any}
use Rattle.std.specs.Prelude.{◌&&◌, List, [], ◌∷◌, Bool, true, false, Option, Some, None, codes}
use Rattle.std.specs.Prelude.{if◌then◌else◌, option_and_then, option_map}
use Rattle.std.specs.Str.{bytes_eq}
use Rattle.clap.specs.Walk.{Row, Text, first_of}
use Rattle.flt_explain_pages.specs.Pages.{has_page}
use Rattle.flt_words.specs.declared.request.Form.{Form}
use Rattle.flt_words.specs.declared.request.Form.TheVariants.{Human}
use Rattle.flt_words.specs.declared.request.FormatMode.TheVariants.{Print, Check as CheckOnly, Write}
use Rattle.flt_words.specs.declared.request.Part.{Part}
use Rattle.flt_words.specs.declared.request.Colour.{Colour}
use Rattle.flt_words.specs.declared.request.SearchChoice.{SearchChoice}
use Rattle.flt_words.specs.Workers.{within}
use Rattle.flt_words.specs.Request.{Asked, Choice, Check, Analyse, Thin, Run, Replay, Show, Explain}
use Rattle.flt_words.specs.Request.{Extract, Format, Pages, Emit, EmitInto, Compare, Functions, Serve}
use Rattle.flt_words.specs.Values.{text_of, texts_of, files_of, workers_of, is_set, search_of, form_of, colour_of, part_of}
use Rattle.flt_words.specs.Values.{allowed_of, written_of, has_definitions, has_names}

abbrev pub check_of : List Row → Asked
check_of rows = Check (text_of (codes "FILE") rows) (first_of (codes "CERT") rows)

abbrev pub analyse_of : List Row → Asked
analyse_of rows = Analyse (text_of (codes "FILE") rows)

abbrev pub thin_of : List Row → Asked
thin_of rows = Thin (text_of (codes "FILE") rows) (first_of (codes "CERT") rows)

abbrev pub extract_of : List Row → Asked
extract_of rows = Extract (is_set (codes "map") rows) (files_of rows)

-- the name of the standard input
abbrev pub is_input : Text → Bool
is_input name = bytes_eq name (codes "-")

-- by whether `--check` and `--write` are there: without both one layout is printed, and where files are written, none is the standard
-- input; all else asks for nothing
abbrev pub format_by : Bool → Bool → List Text → Option Asked
format_by true true files = None
format_by true false files = Some (Format CheckOnly files)
format_by false true files = if list_any is_input files then None else Some (Format Write files)
format_by false false (file ∷ []) = Some (Format Print (file ∷ []))
format_by false false files = None

abbrev pub format_of : List Row → Option Asked
format_of rows = format_by (is_set (codes "check") rows) (is_set (codes "write") rows) (files_of rows)

-- another number of workers than 1 to 16 asks for nothing
abbrev pub run_of : List Row → Option Asked
run_of rows =
    option_map (λ workers. Run workers (is_set (codes "quiet") rows) (text_of (codes "SCRIPT") rows) (files_of rows))
    (within (workers_of rows))

-- a journal that isn't shown is judged alone
abbrev pub replay_by : Bool → Option Text → Text → List Text → Asked
replay_by true picture journal files = Show true picture journal files
replay_by false (Some picture) journal files = Show false (Some picture) journal files
replay_by false None journal files = Replay journal files

-- a picture that is drawn into `-` asks for nothing
abbrev pub replay_of : List Row → Option Asked
replay_of rows =
    option_map (λ picture. replay_by (is_set (codes "timeline") rows) picture (text_of (codes "JOURNAL") rows) (files_of rows))
    (written_of (codes "svg") rows)

-- there are names, and each has a page
abbrev pub have_pages : List Text → Bool
have_pages [] = false
have_pages names = list_all has_page names

-- for people names that have pages ask for these, all else for reports
abbrev pub explain_of : Form → Colour → SearchChoice → Option Text → Choice → Bool → List Text → Asked
explain_of Human colour search journal warnings is_c files =
    if have_pages files then Pages files else Explain Human colour search journal warnings is_c files
explain_of form colour search journal warnings is_c files = Explain form colour search journal warnings is_c files

-- in a form, with colours at some time and with the file into which a journal is written;
-- a kind of warning that there isn't asks for nothing
unfoldable pub explain_with : List Row → Form → Colour → Option Text → Option Asked
explain_with rows form colour journal =
    option_map (λ allowed. explain_of form colour (search_of rows) journal
    (record { strict = is_set (codes "strict") rows; allowed = allowed })
    (is_set (codes "c") rows) (files_of rows)) (allowed_of rows)

-- in a form and with colours at some time; `-` is no file into which a journal is written, and asks for nothing
unfoldable pub explain_in : List Row → Form → Colour → Option Asked
explain_in rows form colour = option_and_then (explain_with rows form colour) (written_of (codes "journal") rows)

-- in a form; a time that there isn't asks for nothing
unfoldable pub explain_as : List Row → Form → Option Asked
explain_as rows form = option_and_then (explain_in rows form) (colour_of rows)

-- a form that there isn't asks for nothing
abbrev pub explain_by : List Row → Option Asked
explain_by rows = option_and_then (explain_as rows) (form_of rows)

abbrev pub emit_with : List Row → Part → Asked
emit_with rows part = Emit part (text_of (codes "FILE") rows) (first_of (codes "CERT") rows)

abbrev pub emit_into : List Row → Text → Asked
emit_into rows folder = EmitInto folder (is_set (codes "force") rows) (text_of (codes "FILE") rows) (first_of (codes "CERT") rows)

-- a folder without a name asks for nothing
abbrev pub emit_in : List Row → Text → Option Asked
emit_in rows folder = if bytes_eq folder [] then None else Some (emit_into rows folder)

-- a part that there isn't asks for nothing, nor does one that would replace a source
abbrev pub emit_part : List Row → Option Asked
emit_part rows = if is_set (codes "force") rows then None else option_map (emit_with rows) (part_of rows)

-- the name of a part and a folder exclude each other
unfoldable pub emit_by : List Row → Option Text → Option Text → Option Asked
emit_by rows part None = emit_part rows
emit_by rows None (Some folder) = emit_in rows folder
emit_by rows (Some part) (Some folder) = None

abbrev pub emit_of : List Row → Option Asked
emit_of rows = emit_by rows (first_of (codes "part") rows) (first_of (codes "into") rows)

abbrev pub compare_of : List Row → Asked
compare_of rows = Compare (files_of rows)

abbrev pub functions_of : List Row → Asked
functions_of rows =
    Functions (texts_of (codes "define") rows) (texts_of (codes "undef") rows) (texts_of (codes "include") rows) (files_of rows)

-- without `--functions` nothing is asked for, nor is it where a macro is defined by no name or in several lines
abbrev pub draft_of : List Row → Option Asked
draft_of rows =
    if is_set (codes "functions") rows && (has_definitions rows && has_names rows) then Some (functions_of rows) else None

-- what a subcommand with its arguments asks for
abbrev pub asked_by : Text × List Row → Option Asked
asked_by (name, rows) =
    if bytes_eq name (codes "check") then Some (check_of rows)
    else (if bytes_eq name (codes "analyse") then Some (analyse_of rows)
    else (if bytes_eq name (codes "thin") then Some (thin_of rows)
    else (if bytes_eq name (codes "explain") then explain_by rows
    else (if bytes_eq name (codes "run") then run_of rows
    else (if bytes_eq name (codes "replay") then replay_of rows
    else (if bytes_eq name (codes "extract") then Some (extract_of rows)
    else (if bytes_eq name (codes "format") then format_of rows
    else (if bytes_eq name (codes "emit") then emit_of rows
    else (if bytes_eq name (codes "compare") then Some (compare_of rows)
    else (if bytes_eq name (codes "draft") then draft_of rows
    else (if bytes_eq name (codes "serve") then Some Serve else None)))))))))))
