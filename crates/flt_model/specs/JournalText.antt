-- Journals and their spelling. This project's own format.
use Rattle.std.specs.Prelude.{◌≡◌, ℕ, suc, ◌+◌, ◌<◌, ◌≤◌, ◌^◌, ◌≢◌, ◌⊎◌, ◌==◌, max, if◌then◌else◌}
use Rattle.std.specs.Prelude.{Bool, true, false, List, [], ◌∷◌, ◌++◌, length, codes}
use Rattle.std.specs.List.{flat_map, AllByRecursion}
use Rattle.std.specs.Fmt.{decimal}
use Rattle.flt_rules.specs.Place.{all_operations, operation_name}
use Rattle.flt_rules.specs.declared.place.Operation.{Operation}
use Rattle.flt_rules.specs.declared.place.Mode.{Mode}
use Rattle.flt_rules.specs.declared.place.Mode.TheVariants.{Irp, Fast}
use Rattle.flt_model.specs.Streams.{Text}
use Rattle.flt_model.specs.declared.moves.JournalEntry.{JournalEntry}
use Rattle.flt_model.specs.declared.moves.JournalEntry.TheVariants.{Go}
use Rattle.flt_model.specs.declared.moves.JournalEntry.TheVariants as entries
use Rattle.flt_model.specs.declared.moves.Key.{Key}
use Rattle.flt_model.specs.declared.moves.Key.TheVariants.{Stream, Instance}
use Rattle.flt_model.specs.declared.moves.Move.{Move}
use Rattle.flt_model.specs.declared.moves.Move.TheVariants as moves
use Rattle.flt_rules.specs.Limits.{max_entries}

-- the entries, the first one first
abbrev pub Entries : Type 0
Entries = List JournalEntry

-- how many entries a journal that is read has at most
unfoldable pub most_entries : ℕ
most_entries = max_entries

-- ---- entries that have a spelling

-- a number has 32 bits
abbrev pub IsNumber : ℕ → Type 0
IsNumber n = n < 2 ^ 32

-- the number of a key's file
abbrev pub IsKey : Key → Type 0
IsKey (Stream file) = IsNumber file
IsKey Instance = Unit {0}

-- the numbers of a move
abbrev pub IsMove : Move → Type 0
IsMove (moves.Arrive operation mode file) = IsNumber file
IsMove (moves.Pre serial) = IsNumber serial
IsMove (moves.Skip serial) = IsNumber serial
IsMove (moves.Lower serial) = IsNumber serial
IsMove (moves.Post serial) = IsNumber serial
IsMove (moves.Cancel serial) = IsNumber serial
IsMove (moves.Canceled altitude serial) = IsNumber altitude × IsNumber serial
IsMove (moves.Work item) = IsNumber item
IsMove (moves.Detach altitude) = IsNumber altitude
IsMove (moves.Drain altitude serial) = IsNumber altitude × IsNumber serial
IsMove (moves.Unlink altitude key) = IsNumber altitude × IsKey key
IsMove (moves.Detached altitude) = IsNumber altitude

-- the numbers of an entry
abbrev pub IsEntry : JournalEntry → Type 0
IsEntry (entries.Move move) = IsMove move
IsEntry (Go activation steps grant) = IsNumber activation × IsNumber steps

-- each is an entry, and there are 1,000,000 at most
abbrev pub IsJournal : Entries → Type 0
IsJournal entries = AllByRecursion IsEntry entries × (length entries ≤ most_entries)

-- ---- what stands in a line

-- a number, then a byte
abbrev pub number_text : ℕ → ℕ → Text
number_text n end = decimal n ++ end ∷ []

-- an operation, then a blank
abbrev pub operation_text : Operation → Text
operation_text kind = operation_name kind ++ codes " "

-- the bytes of the longest of these texts, and of all
abbrev pub longest_of : List Operation → ℕ
longest_of [] = 0
longest_of (kind ∷ kinds) = max (length (operation_text kind)) (longest_of kinds)

abbrev pub longest_operation : ℕ
longest_operation = longest_of all_operations

-- the bytes of the longest line of a move behind its first one: that of an unlink with a file, or of an arrival
abbrev pub longest_move : ℕ
longest_move = max 35 (22 + longest_operation)

-- a mode, then a blank
abbrev pub mode_text : Mode → Text
mode_text Irp = codes "irp "
mode_text Fast = codes "fast "

-- a key, up to the end of the line
abbrev pub key_text : Key → Text
key_text (Stream file) = codes "stream " ++ number_text file 10
key_text Instance = codes "instance" ++ 10 ∷ []

-- whether it was granted, up to the end of the line
abbrev pub grant_text : Bool → Text
grant_text true = codes "yes" ++ 10 ∷ []
grant_text false = codes "no" ++ 10 ∷ []

-- the line of a move
abbrev pub move_line : Move → Text
move_line (moves.Arrive operation mode file) = codes "arrive " ++ (operation_text operation ++ (mode_text mode ++ number_text file 10))
move_line (moves.Pre serial) = codes "pre " ++ number_text serial 10
move_line (moves.Skip serial) = codes "skip " ++ number_text serial 10
move_line (moves.Lower serial) = codes "lower " ++ number_text serial 10
move_line (moves.Post serial) = codes "post " ++ number_text serial 10
move_line (moves.Cancel serial) = codes "cancel " ++ number_text serial 10
move_line (moves.Canceled altitude serial) = codes "canceled " ++ (number_text altitude 32 ++ number_text serial 10)
move_line (moves.Work item) = codes "work " ++ number_text item 10
move_line (moves.Detach altitude) = codes "detach " ++ number_text altitude 10
move_line (moves.Drain altitude serial) = codes "drain " ++ (number_text altitude 32 ++ number_text serial 10)
move_line (moves.Unlink altitude key) = codes "unlink " ++ (number_text altitude 32 ++ key_text key)
move_line (moves.Detached altitude) = codes "detached " ++ number_text altitude 10

-- the line of an entry
abbrev pub entry_line : JournalEntry → Text
entry_line (entries.Move move) = move_line move
entry_line (Go activation steps grant) = codes "go " ++ (number_text activation 32 ++ (number_text steps 32 ++ grant_text grant))

-- the line that every journal begins with
abbrev pub first_line : Text
first_line = codes "fltjournal 1" ++ 10 ∷ []

-- the line that every journal ends with
abbrev pub last_line : Text
last_line = codes "end" ++ 10 ∷ []

-- the one spelling of a journal
abbrev pub spelling : Entries → Text
spelling entries = first_line ++ (flat_map entry_line entries ++ last_line)

-- ---- texts that are no journal

-- how many lines end in a text
abbrev pub line_ends : Text → ℕ
line_ends [] = 0
line_ends (b ∷ text) = if b == 10 then suc (line_ends text) else line_ends text

-- the first malformed byte: the bytes before it begin a journal, and with it they begin none; or the bytes
-- begin a journal and are none, as one is missing. The line that it stands in is counted from 1, and what is left
-- behind it isn't looked at
pub record IsFirstFault (text : Text) (line : ℕ) (left : Text) : Type 0 where
  pub given : Text
  pub number : line ≡ suc (line_ends given)
  pub whose : Entries
  pub journal : IsJournal whose
  pub rest : Text
  pub begun : spelling whose ≡ given ++ rest
  pub stopped : ((b : ℕ) × (text ≡ given ++ b ∷ left)
      × ((entries : Entries) → IsJournal entries → (others : Text) → spelling entries ≢ given ++ b ∷ others))
      ⊎ ((text ≡ given) × (left ≡ []) × ((entries : Entries) → IsJournal entries → spelling entries ≢ given))
