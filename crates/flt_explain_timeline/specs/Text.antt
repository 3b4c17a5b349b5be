-- A timeline as text: a line for each row that is no repetition, and one for what repeats. This project's own program.
use Rattle.std.specs.Prelude.{◌≡◌, ◌+◌, ◌-◌, ◌*◌, ◌/◌, ◌%◌, ◌^◌, ◌==◌, ℕ, zero, suc, Bool, true, false, List}
use Rattle.std.specs.Prelude.{[], ◌∷◌, ◌++◌, Option, Some, None, codes, drop, flat_map, is_some, length, map}
use Rattle.std.specs.Prelude.{nat_lt, option_and_then, replicate, slice_get, take, if◌then◌else◌}
use Rattle.std.specs.Borrow.{Bor}
use Rattle.std.specs.Fmt.{decimal}
use Rattle.std.specs.List.{range_with_len}
use Rattle.flt_tree.specs.Names.{Text}
use Rattle.flt_tree.specs.declared.filter.Filter.{Filter}
use Rattle.flt_model.specs.Verdicts.{violation_name}
use Rattle.flt_model.specs.declared.verdict.Verdict.{Verdict}
use Rattle.flt_model.specs.declared.verdict.Verdict.TheVariants as verdicts
use Rattle.flt_explain_timeline.specs.Folds.{folds, part}
use Rattle.flt_explain_timeline.specs.Reasons.{refusal_words}
use Rattle.flt_explain_timeline.specs.Tellings.{told_by}
use Rattle.flt_explain_timeline.specs.Words.{callback_words, happening_words, operation_words}
use Rattle.flt_explain_timeline.specs.declared.folds.Fold.{Fold}
use Rattle.flt_explain_timeline.specs.declared.refusal.Refusal.{Refusal}
use Rattle.flt_explain_timeline.specs.declared.rows.Row.{Row}
use Rattle.flt_explain_timeline.specs.declared.telling.Column.{Column}
use Rattle.flt_explain_timeline.specs.declared.telling.Column.TheVariants as columns
use Rattle.flt_explain_timeline.specs.declared.telling.Happening.{Happening}
use Rattle.flt_explain_timeline.specs.declared.telling.Happening.TheVariants as happenings
use Rattle.flt_explain_timeline.specs.declared.telling.StartedCallback.{StartedCallback}
use Rattle.flt_explain_timeline.specs.declared.telling.Telling.{Telling}
use Rattle.flt_explain_timeline.specs.declared.timeline.Timeline.{Timeline}

-- ---- entries

-- the last entry of a row
abbrev pub last_entry : Row → ℕ
last_entry row = row.first + (row.count - 1)

-- what is told by a number
abbrev pub telling_by : Timeline → ℕ → Option Telling
telling_by t number = told_by t.tellings number

-- what is told of an entry; nothing behind the last
abbrev pub telling_of : Timeline → ℕ → Option Telling
telling_of t entry = option_and_then (telling_by t) (slice_get t.told entry)

-- what came of an entry; one of which nothing is told was left out
abbrev pub happening_in : Option Telling → Happening
happening_in (Some telling) = telling.happening
happening_in None = happenings.IsLeftOut

-- the operation that an entry is about, if it is about one
abbrev pub operation_of : Timeline → ℕ → Option ℕ
operation_of t entry = option_and_then (λ who. who.operation) (slice_get t.whos entry)

-- ---- the words of a row

-- what is said of each, with a comma between two
abbrev pub listed : {A : Type 0} → (A → Text) → List A → Text
listed says [] = []
listed says (x ∷ xs) = says x ++ flat_map (λ other. codes ", " ++ says other) xs

-- what is told by a number, in a row about this operation
abbrev pub telling_words : Timeline → Option ℕ → ℕ → Text
telling_words t operation number = happening_words t.filters.items t.files operation (happening_in (telling_by t number))

-- so many times more, these words
abbrev pub times_words : ℕ → Text → Text
times_words zero words = words
times_words (suc more) words = decimal (suc (suc more)) ++ codes " times (" ++ words ++ codes ")"

-- how often a block comes again
abbrev pub more_of : Fold → ℕ
more_of fold = fold.repeated / fold.block

-- a block of what is told, and how often it comes
abbrev pub block_words : Timeline → Option ℕ → List ℕ → Fold → Text
block_words t operation told fold =
    times_words (more_of fold) (listed (telling_words t operation) (take fold.block (drop fold.first told)))

-- each entry of a row by itself
abbrev pub single : ℕ → Row
single number = record { first = number; count = 1 }

-- all that is told in a row, of which what repeats is told once
abbrev pub told_words : Timeline → Option ℕ → List ℕ → Text
told_words t operation told =
    listed (block_words t operation told) (folds told (map single (range_with_len 0 (length told))))

-- the callback that goes on, if another was on before
abbrev pub resumed_words : List (Bor Filter) → Option StartedCallback → Text
resumed_words filters (Some started) = callback_words filters started ++ codes ": "
resumed_words filters None = []

-- the same, of what is told of an entry
abbrev pub resumed_by : List (Bor Filter) → Option Telling → Text
resumed_by filters (Some telling) = resumed_words filters telling.resumed
resumed_by filters None = []

-- whether an entry stands behind the one that ends the run
abbrev pub is_left_out : Happening → Bool
is_left_out happenings.IsLeftOut = true
is_left_out _ = false

-- what a row's entries came to
abbrev pub row_words : Timeline → Row → Text
row_words t row =
    if is_left_out (happening_in (telling_of t row.first)) then codes "not judged"
    else resumed_by t.filters.items (telling_of t row.first) ++ told_words t (operation_of t row.first) (part t.told row)

-- ---- what the run comes to

-- why an entry isn't enabled
abbrev pub reason_words : Option Refusal → Text
reason_words (Some refusal) = codes "  <- isn't enabled: " ++ refusal_words refusal
reason_words None = codes "  <- isn't enabled"

-- whether an entry isn't enabled
abbrev pub is_refused : Happening → Bool
is_refused (happenings.IsRefused entry) = true
is_refused _ = false

-- by which entry the run breaks something
abbrev pub is_break : Verdict → ℕ → Bool
is_break (verdicts.Breaks violation at) entry = at == entry
is_break _ entry = false

-- what it breaks
abbrev pub broken_words : Verdict → Text
broken_words (verdicts.Breaks violation at) = codes "  <- breaks " ++ violation_name violation
broken_words _ = []

-- behind the row of its last entry, what the run breaks, or why that entry isn't enabled
abbrev pub end_words : Timeline → Row → Text
end_words t row =
    if is_break t.verdict (last_entry row) then broken_words t.verdict
    else (if is_refused (happening_in (telling_of t (last_entry row))) then reason_words t.refusal else [])

-- what is said in the line of a row
abbrev pub words : Timeline → Row → Text
words t row = row_words t row ++ end_words t row

-- ---- lines

-- the numbers of a first and a last entry
abbrev pub numbers : ℕ → ℕ → Text
numbers first last = if nat_lt first last then decimal first ++ codes "-" ++ decimal last else decimal first

-- a text to the right of a field, and two blanks
abbrev pub to_right : ℕ → Text → Text
to_right field text = replicate (field - length text) 32 ++ text ++ codes "  "

-- whether the operation of a column isn't done: column 0 is the lowest bit
abbrev pub is_alive : ℕ → ℕ → Bool
is_alive alive column = alive / 2 ^ column % 2 == 1

-- the sign of an operation that isn't on, if it isn't done
abbrev pub bar : Bool → Text
bar true = codes "|   "
bar false = codes "    "

-- the signs of the first columns
abbrev pub bars : ℕ → ℕ → Text
bars alive count = flat_map (λ column. bar (is_alive alive column)) (range_with_len 0 count)

-- the columns up to the one of an entry about this operation
abbrev pub columns_by : ℕ → Option ℕ → Column → Text
columns_by alive operation columns.Margin = codes "* "
columns_by alive operation (columns.Own own) = bars alive own ++ codes "o "
columns_by alive operation columns.Beyond = bars alive 8 ++ operation_words (codes "+ ") operation ++ codes ": "

-- the same, of what is told
abbrev pub columns_of : Option ℕ → Option Telling → Text
columns_of operation (Some telling) = columns_by telling.alive operation telling.column
columns_of operation None = []

-- the line of a row: the numbers of its entries, the columns, and what they came to
abbrev pub line : Timeline → ℕ → ℕ → Row → Text
line t indent field row =
    replicate indent 32 ++ to_right field (numbers row.first (last_entry row))
    ++ columns_of (operation_of t row.first) (telling_of t row.first) ++ words t row ++ 10 ∷ []

-- the first entry of a row, if there is one, and its last
abbrev pub first_in : Option Row → ℕ
first_in (Some row) = row.first
first_in None = 0

abbrev pub last_in : Option Row → ℕ
last_in (Some row) = last_entry row
last_in None = 0

-- the last entry of some rows
abbrev pub end_of : List Row → ℕ
end_of rows = last_in (slice_get rows (length rows - 1))

-- a block of so many rows comes so many times more
abbrev pub same_words : ℕ → ℕ → Text
same_words block more =
    codes "the same " ++ (if block == 1 then [] else decimal block ++ codes " rows ") ++ decimal more ++ codes " times more" ++ 10 ∷ []

-- the line of what repeats a block, if something does
abbrev pub again_line : ℕ → ℕ → Fold → List Row → Text
again_line indent field fold rows =
    if fold.repeated == 0 then []
    else replicate indent 32 ++ to_right field (numbers (first_in (slice_get rows 0)) (end_of rows)) ++ same_words fold.block (more_of fold)

-- the lines of a block: those of its rows, and the one of what repeats them
abbrev pub fold_lines : Timeline → ℕ → ℕ → Fold → Text
fold_lines t indent field fold =
    flat_map (line t indent field) (take fold.block (drop fold.first t.rows))
    ++ again_line indent field fold (take fold.repeated (drop fold.block (drop fold.first t.rows)))

-- how wide the numbers of entries are at most, where this is the last
abbrev pub field_to : ℕ → ℕ
field_to last = length (decimal last ++ codes "-" ++ decimal last)

-- the timeline as text, each line behind so many blanks
abbrev pub text : Timeline → ℕ → Text
text t indent = flat_map (fold_lines t indent (field_to (end_of t.rows))) t.folds

-- ---- rows by themselves

-- the column of what is told, if it is about an operation; 8 behind all columns
abbrev pub number_of : Column → Option ℕ
number_of columns.Margin = None
number_of (columns.Own own) = Some own
number_of columns.Beyond = Some 8

-- the column of a row
abbrev pub column_of : Timeline → Row → Option ℕ
column_of t row = option_and_then (λ telling. number_of telling.column) (telling_of t row.first)

-- whether the operation of a column isn't done when a row begins
abbrev pub is_alive_in : ℕ → Option Telling → Bool
is_alive_in column (Some telling) = is_alive telling.alive column
is_alive_in column None = false

-- whether a callback is on in the last entry of a row
abbrev pub is_running : Timeline → Row → Bool
is_running t row = is_some (option_and_then (λ who. who.activation) (slice_get t.whos (last_entry row)))
