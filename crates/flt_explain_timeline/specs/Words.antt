-- What is said of an entry, to the letter. This project's own program.
use Rattle.std.specs.Prelude.{◌≡◌, ℕ, ◌+◌, Bool, true, false, List, [], ◌∷◌, ◌++◌, Option, Some, None}
use Rattle.std.specs.Prelude.{Result, OnOk, codes, length, map, nat_lt, slice_get, if◌then◌else◌}
use Rattle.std.specs.Borrow.{Bor}
use Rattle.std.specs.Char.{is_ascii_graphic}
use Rattle.std.specs.Fmt.{decimal}
use Rattle.flt_places.specs.Files.{file_at, file_line, file_name}
use Rattle.flt_places.specs.declared.files.Files.{Files}
use Rattle.flt_rules.specs.Place.{operation_name}
use Rattle.flt_rules.specs.declared.place.Mode.{Mode}
use Rattle.flt_rules.specs.declared.place.Mode.TheVariants.{Irp, Fast}
use Rattle.flt_rules.specs.declared.place.Operation.{Operation}
use Rattle.flt_tree.specs.Names.{Text}
use Rattle.flt_tree.specs.declared.filter.Callback.{Callback}
use Rattle.flt_tree.specs.declared.filter.Filter.{Filter}
use Rattle.flt_tree.specs.declared.filter.Head.{Head}
use Rattle.flt_tree.specs.declared.filter.Head.TheVariants as heads
use Rattle.flt_model.specs.declared.moves.JournalEntry.{JournalEntry}
use Rattle.flt_model.specs.declared.moves.JournalEntry.TheVariants as entries
use Rattle.flt_model.specs.declared.moves.Key.{Key}
use Rattle.flt_model.specs.declared.moves.Key.TheVariants.{Stream, Instance}
use Rattle.flt_model.specs.declared.moves.Move.{Move}
use Rattle.flt_model.specs.declared.moves.Move.TheVariants as moves
use Rattle.flt_explain_timeline.specs.declared.telling.Happening.{Happening}
use Rattle.flt_explain_timeline.specs.declared.telling.Happening.TheVariants as happenings
use Rattle.flt_explain_timeline.specs.declared.telling.StartedCallback.{StartedCallback}

-- this text stands after what was written
abbrev pub Puts : {E : Type 0} → Result (Unit {0}) E → Text → Text → Text → Type 0
Puts r old new text = OnOk r (new ≡ old ++ text)

-- ---- lines of a journal, without their ends

-- a kind of operation
-- a mode, between blanks
abbrev pub mode_word : Mode → Text
mode_word Irp = codes " irp "
mode_word Fast = codes " fast "

-- a choice, or how a call or a test came out, after a blank
abbrev pub choice_word : Bool → Text
choice_word true = codes " yes"
choice_word false = codes " no"

-- an operation arrives
abbrev pub arrival_words : Operation → Mode → ℕ → Text
arrival_words kind mode file = codes "arrive " ++ operation_name kind ++ mode_word mode ++ decimal file

-- a context loses its link
abbrev pub unlink_words : ℕ → Key → Text
unlink_words altitude (Stream file) = codes "unlink " ++ decimal altitude ++ codes " stream " ++ decimal file
unlink_words altitude Instance = codes "unlink " ++ decimal altitude ++ codes " instance"

-- a word and two numbers
abbrev pub two_words : Text → ℕ → ℕ → Text
two_words word one other = word ++ decimal one ++ codes " " ++ decimal other

-- a move
abbrev pub move_words : Move → Text
move_words (moves.Arrive operation mode file) = arrival_words operation mode file
move_words (moves.Pre serial) = codes "pre " ++ decimal serial
move_words (moves.Skip serial) = codes "skip " ++ decimal serial
move_words (moves.Lower serial) = codes "lower " ++ decimal serial
move_words (moves.Post serial) = codes "post " ++ decimal serial
move_words (moves.Cancel serial) = codes "cancel " ++ decimal serial
move_words (moves.Canceled altitude serial) = two_words (codes "canceled ") altitude serial
move_words (moves.Work item) = codes "work " ++ decimal item
move_words (moves.Detach altitude) = codes "detach " ++ decimal altitude
move_words (moves.Drain altitude serial) = two_words (codes "drain ") altitude serial
move_words (moves.Unlink altitude key) = unlink_words altitude key
move_words (moves.Detached altitude) = codes "detached " ++ decimal altitude

-- an entry
abbrev pub entry_words : JournalEntry → Text
entry_words (entries.Move move) = move_words move
entry_words (entries.Go activation steps grant) = two_words (codes "go ") activation steps ++ choice_word grant

-- ---- callbacks

-- a byte of a name; `?` for what isn't printed
abbrev pub shown : ℕ → ℕ
shown b = if is_ascii_graphic b then b else 63

-- the head of an operation's callback, in quotes
unfoldable pub head_on : Text → Operation → Text
head_on word kind = codes "`" ++ word ++ operation_name kind ++ codes "`"

-- the head of a routine, in quotes
unfoldable pub head_named : Text → Text → Text
head_named word name = codes "`" ++ word ++ map shown name ++ codes "`"

-- the head of a callback as its text has it
abbrev pub head_words : Head → Text
head_words (heads.Pre kind) = head_on (codes "pre ") kind
head_words (heads.Post kind) = head_on (codes "post ") kind
head_words heads.Canceled = codes "`canceled`"
head_words (heads.DeferredPre name) = head_named (codes "deferred_pre ") name
head_words (heads.DeferredPost name) = head_named (codes "deferred_post ") name
head_words (heads.Generic name) = head_named (codes "generic ") name

-- the head of a callback; empty quotes where there is none
abbrev pub callback_head : Option Callback → Text
callback_head (Some callback) = head_words callback.head
callback_head None = codes "``"

-- a filter's name, where there are several
abbrev pub of_filter : ℕ → Filter → Text
of_filter filters filter = if nat_lt 1 filters then codes " of " ++ map shown filter.name else []

-- a callback of a filter, which is one of so many
abbrev pub callback_of : ℕ → ℕ → Option (Bor Filter) → Text
callback_of filters callback (Some filter) = callback_head (slice_get filter.now.callbacks callback) ++ of_filter filters filter.now
callback_of filters callback None = []

-- a callback by its head, with the name of its filter where there are several
abbrev pub callback_words : List (Bor Filter) → StartedCallback → Text
callback_words filters started = callback_of (length filters) started.callback (slice_get filters started.filter)

-- ---- what entries come to

-- it starts; `draining` where the post callback is called early
abbrev pub starts_word : Bool → Text
starts_word true = codes " starts, draining"
starts_word false = codes " starts"

-- how a call or a test came out; nothing where the line is neither
abbrev pub outcome_word : Option Bool → Text
outcome_word (Some outcome) = choice_word outcome
outcome_word None = []

-- a word, and the number of an operation, if there is one
abbrev pub operation_words : Text → Option ℕ → Text
operation_words word (Some operation) = word ++ decimal operation
operation_words word None = word

-- ---- lines

-- the name of the file of a line of a text, where there are several files
abbrev pub name_before : Files → ℕ → Text
name_before files line = if nat_lt 1 (length files.all.now) then map shown (file_name files (file_at files line)) ++ codes ":" else []

-- a line of a text by its number in its file
abbrev pub line_in : Files → ℕ → Text
line_in files line = name_before files line ++ decimal (file_line files line)

-- the same; by its number in the text, where the files aren't known
abbrev pub line_words : Option Files → ℕ → Text
line_words None line = decimal line
line_words (Some files) line = line_in files line

-- the files of the filter of a number, if they are known
abbrev pub files_by : Option (Option Files) → Option Files
files_by None = None
files_by (Some files) = files

abbrev pub files_of : List (Option Files) → ℕ → Option Files
files_of files filter = files_by (slice_get files filter)

-- what an entry came to that is about this operation, if it is about one
abbrev pub happening_words : List (Bor Filter) → List (Option Files) → Option ℕ → Happening → Text
happening_words filters files operation (happenings.Arrives kind mode file) = arrival_words kind mode file
happening_words filters files operation happenings.Skips = operation_words (codes "skip ") operation
happening_words filters files operation happenings.Lowers = operation_words (codes "lower ") operation
happening_words filters files operation happenings.Cancels = operation_words (codes "cancel ") operation
happening_words filters files operation (happenings.Detaches altitude) = codes "detach " ++ decimal altitude
happening_words filters files operation (happenings.Unlinks altitude key) = unlink_words altitude key
happening_words filters files operation (happenings.IsDetached altitude) = codes "detached " ++ decimal altitude
happening_words filters files operation (happenings.Starts started) = callback_words filters started ++ starts_word started.draining
happening_words filters files operation (happenings.Runs filter line outcome) =
    line_words (files_of files filter) line ++ outcome_word outcome
happening_words filters files operation (happenings.IsRefused entry) = entry_words entry
happening_words filters files operation happenings.IsLeftOut = codes "not judged"
