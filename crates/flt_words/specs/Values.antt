-- The values of a command's arguments. This project's own program.
use Rattle.std.specs.Char.{digit_value, is_ascii_alphabetic, is_ascii_alphanumeric}
use Rattle.std.specs.List.{list_all}
use Rattle.std.specs.Prelude.{ℕ, ◌&&◌, ◌||◌, ◌==◌, not, List, [], ◌∷◌, Bool, true, false, Option, Some, None, codes}
use Rattle.std.specs.Prelude.{if◌then◌else◌, length, nat_lt, unwrap_or, option_map}
use Rattle.std.specs.Option.{option_map_or}
use Rattle.std.specs.Str.{bytes_eq}
use Rattle.std.specs.Str.Parse.{digits_value, without_leading_plus}
use Rattle.clap.specs.Walk.{Row, Text, all_of, byte_or_zero, first_of}
use Rattle.flt_words.specs.declared.request.Form.{Form}
use Rattle.flt_words.specs.declared.request.Form.TheVariants.{Html, Human, Lines, LinesWithRuns, Sarif, SarifWithRuns, Short}
use Rattle.flt_words.specs.declared.request.Part.{Part}
use Rattle.flt_words.specs.declared.request.Part.TheVariants.{Source, User, Inf}
use Rattle.flt_words.specs.declared.request.Colour.{Colour}
use Rattle.flt_words.specs.declared.request.Colour.TheVariants.{Auto, Always, Never}
use Rattle.flt_words.specs.declared.request.SearchChoice.{SearchChoice}

-- the value of an argument that is always there
abbrev pub text_of : Text → List Row → Text
text_of id rows = unwrap_or (first_of id rows) (codes "-")

-- all values of an argument
abbrev pub texts_of : Text → List Row → List Text
texts_of id rows = unwrap_or (all_of id rows) []

-- all values of FILE
abbrev pub files_of : List Row → List Text
files_of rows = texts_of (codes "FILE") rows

-- the number behind `--workers`, 1 where there is none
abbrev pub workers_of : List Row → ℕ
workers_of rows = option_map_or byte_or_zero (first_of (codes "workers") rows) 1

-- `text.parse::<u32>().unwrap_or(0)`
abbrev pub count_or_zero : Text → ℕ
count_or_zero text =
    let ds = without_leading_plus text in
    if nat_lt 0 (length ds) && list_all (λ d. nat_lt (digit_value d) 10) ds && nat_lt (digits_value 10 ds) 4294967296
    then digits_value 10 ds else 0

-- the number behind `--states`, 40,000 where there is none
abbrev pub states_of : List Row → ℕ
states_of rows = option_map_or count_or_zero (first_of (codes "states") rows) 40000

-- a flag is there
abbrev pub is_set : Text → List Row → Bool
is_set id rows = option_map_or (λ text. bytes_eq text (codes "true")) (first_of id rows) false

-- how runs are looked for: up to so many states, and in runs of all texts behind `--stack`
abbrev pub search_of : List Row → SearchChoice
search_of rows = record { states = states_of rows; is_stack = is_set (codes "stack") rows }

-- the form of a name
abbrev pub form_named : Text → Option Form
form_named name =
    if bytes_eq name (codes "html") then Some Html
    else (if bytes_eq name (codes "human") then Some Human
    else (if bytes_eq name (codes "lines") then Some Lines
    else (if bytes_eq name (codes "sarif") then Some Sarif
    else (if bytes_eq name (codes "short") then Some Short else None))))

-- the form behind `--form`, that for people where there is none
abbrev pub named_form : List Row → Option Form
named_form rows = option_map_or form_named (first_of (codes "form") rows) (Some Human)

-- a form with runs; those for people have them always, and the short one never
abbrev pub form_with_runs : Form → Form
form_with_runs Html = Html
form_with_runs Human = Human
form_with_runs Short = Short
form_with_runs Lines = LinesWithRuns
form_with_runs LinesWithRuns = LinesWithRuns
form_with_runs Sarif = SarifWithRuns
form_with_runs SarifWithRuns = SarifWithRuns

-- the same where they are asked for
abbrev pub with_runs : Bool → Form → Form
with_runs is_asked form = if is_asked then form_with_runs form else form

-- the form behind `--form`, with runs behind `--runs`
abbrev pub form_of : List Row → Option Form
form_of rows = option_map (with_runs (is_set (codes "runs") rows)) (named_form rows)

-- when there are colours, by its name
abbrev pub colour_named : Text → Option Colour
colour_named name =
    if bytes_eq name (codes "auto") then Some Auto
    else (if bytes_eq name (codes "always") then Some Always
    else (if bytes_eq name (codes "never") then Some Never else None))

-- the time behind `--color`, that of a terminal where there is none
abbrev pub colour_of : List Row → Option Colour
colour_of rows = option_map_or colour_named (first_of (codes "color") rows) (Some Auto)

-- the part of a driver of a name
abbrev pub part_named : Text → Option Part
part_named name =
    if bytes_eq name (codes "source") then Some Source
    else (if bytes_eq name (codes "user") then Some User
    else (if bytes_eq name (codes "inf") then Some Inf else None))

-- the part behind `--part`, the source where there is none
abbrev pub part_of : List Row → Option Part
part_of rows = option_map_or part_named (first_of (codes "part") rows) (Some Source)

-- the name of a kind of warning, of a text or of a C file
abbrev pub is_kind : Text → Bool
is_kind name =
    bytes_eq name (codes "W00") || (bytes_eq name (codes "W01") || (bytes_eq name (codes "W02") || (bytes_eq name (codes "W03")
    || (bytes_eq name (codes "W04") || (bytes_eq name (codes "W05") || (bytes_eq name (codes "W06") || (bytes_eq name (codes "W07")
    || (bytes_eq name (codes "C00") || (bytes_eq name (codes "C01") || (bytes_eq name (codes "C02") || (bytes_eq name (codes "C03")
    || (bytes_eq name (codes "C04") || bytes_eq name (codes "C05")))))))))))))

-- some names of kinds; none at all where one isn't the name of a kind
abbrev pub kinds_in : List Text → Option (List Text)
kinds_in names = if list_all is_kind names then Some names else None

-- the kinds behind each `--allow`
abbrev pub allowed_of : List Row → Option (List Text)
allowed_of rows = kinds_in (texts_of (codes "allow") rows)

-- the file that is written, if one is named for it; none at all where `-` is
abbrev pub written_by : Option Text → Option (Option Text)
written_by None = Some None
written_by (Some name) = if bytes_eq name (codes "-") then None else Some (Some name)

-- the same of the file behind an option
abbrev pub written_of : Text → List Row → Option (Option Text)
written_of id rows = written_by (first_of id rows)

-- a name of C, of letters, digits and `_`
abbrev pub begins_name : ℕ → Bool
begins_name b = is_ascii_alphabetic b || b == 95

abbrev pub is_name_byte : ℕ → Bool
is_name_byte b = is_ascii_alphanumeric b || b == 95

abbrev pub is_name : Text → Bool
is_name [] = false
is_name (b ∷ z) = begins_name b && list_all is_name_byte z

-- what ends no line
abbrev pub is_line_byte : ℕ → Bool
is_line_byte b = not (b == 10)

-- the rest of a name, and perhaps `=` and a value in one line
abbrev pub is_rest : Text → Bool
is_rest [] = true
is_rest (b ∷ z) = if b == 61 then list_all is_line_byte z else is_name_byte b && is_rest z

-- a definition of a macro: its name, and perhaps `=` and a value in one line
abbrev pub is_definition : Text → Bool
is_definition [] = false
is_definition (b ∷ z) = begins_name b && is_rest z

-- each `--define` has a definition
abbrev pub has_definitions : List Row → Bool
has_definitions rows = list_all is_definition (texts_of (codes "define") rows)

-- each `--undef` has a name
abbrev pub has_names : List Row → Bool
has_names rows = list_all is_name (texts_of (codes "undef") rows)
