-- Reading a journal byte by byte, up to the first malformed byte.
use Rattle.std.specs.Prelude.{◌≡◌, ◌≢◌, ◌≤◌, ℕ, zero, suc, ◌+◌, ◌-◌, ◌*◌, ◌^◌, Bool, true, false, ◌&&◌, ◌==◌, nat_eq, nat_lt}
use Rattle.std.specs.Prelude.{if◌then◌else◌, [], ◌∷◌, ◌++◌, length, drop, codes, find, Option, Some, None, Result, Ok, Err}
use Rattle.std.specs.List.{starts_with}
use Rattle.flt_rules.specs.Parsing as parsing
use Rattle.flt_rules.specs.Place.{all_operations}
pub use Rattle.flt_rules.specs.Parsing.{and_then, ◌>>=◌, ◌>>◌, pure}
use Rattle.flt_rules.specs.declared.place.Operation.{Operation}
use Rattle.flt_rules.specs.declared.place.Mode.{Mode}
use Rattle.flt_rules.specs.declared.place.Mode.TheVariants.{Irp, Fast}
use Rattle.flt_model.specs.Streams.{Text}
use Rattle.flt_model.specs.JournalText.{Entries, first_line, last_line, most_entries, IsFirstFault, operation_text}
use Rattle.flt_model.specs.declared.moves.JournalEntry.{JournalEntry}
use Rattle.flt_model.specs.declared.moves.JournalEntry.TheVariants as entries
use Rattle.flt_model.specs.declared.moves.Key.{Key}
use Rattle.flt_model.specs.declared.moves.Key.TheVariants.{Stream, Instance}
use Rattle.flt_model.specs.declared.moves.Move.{Move}
use Rattle.flt_model.specs.declared.moves.Move.TheVariants as moves
use Rattle.flt_model.specs.declared.scanner.Stop.{Stop}
use Rattle.flt_model.specs.declared.scanner.Stop.TheVariants.{Wrong, Failed}
use Rattle.flt_model.specs.declared.fault.JournalFault.{JournalFault}
use Rattle.flt_model.specs.declared.fault.JournalFault.TheVariants as faults

-- what was read and the bytes behind it, or the bytes behind the first malformed one
abbrev pub Outcome : Type 0 → Type 0
Outcome = parsing.Outcome Text Text

-- what reads the front of a text
abbrev pub Parser : Type 0 → Type 0
Parser = parsing.Parser Text Text

-- the latest byte is malformed
abbrev pub wrong : {A : Type 0} → Parser A
wrong = λ text. Err text

-- the next byte
abbrev pub byte : Parser ℕ
byte [] = Err []
byte (b ∷ text) = Ok (b, text)

-- these bytes
abbrev pub exactly : Text → Parser (Unit {0})
exactly [] = pure tt
exactly (a ∷ front) = byte >>= λ b. if b == a then exactly front else wrong

-- ---- numbers

-- a number with one more digit, if it stays below 2 ^ 32
abbrev pub with_digit : ℕ → ℕ → Option ℕ
with_digit n b = if nat_lt 47 b && (nat_lt b 58 && nat_lt (10 * n + (b - 48)) (2 ^ 32)) then Some (10 * n + (b - 48)) else None

-- what was found, if anything
abbrev pub found_or : {A B : Type 0} → Option A → (A → Parser B) → Parser B
found_or None f = wrong
found_or (Some x) f = f x

-- the digits of a number behind those that were read, so many at most, and the byte behind it
unfoldable pub digits : ℕ → ℕ → ℕ → Parser ℕ
digits zero end n = byte >>= λ b. if b == end then pure n else wrong
digits (suc left) end n = byte >>= λ b. if b == end then pure n else found_or (with_digit n b) (digits left end)

-- a number below 2 ^ 32 with no zero in front, and the byte behind it
unfoldable pub number : ℕ → Parser ℕ
number end = byte >>= λ b. if b == 48 then exactly (end ∷ []) >> pure 0 else found_or (with_digit 0 b) (digits 9 end)

-- so many of these bytes, whatever comes behind them, are a number and the byte behind it
abbrev pub IsNumberIn : ℕ → Text → ℕ → ℕ → Type 0
IsNumberIn end bytes n count =
    (count ≤ length bytes) × ((left : Text) → number end (bytes ++ left) ≡ Ok (n, drop count (bytes ++ left)))

-- ---- what stands in a line

-- the first operation whose text, its name and a blank, begins with these bytes
abbrev pub begun : Text → Option Operation
begun front = find (λ kind. starts_with nat_eq (operation_text kind) front) all_operations

-- an operation, and the blank behind it, of which these bytes have been read: byte by byte, while one begins so
abbrev pub operation_from : Text → Parser Operation
operation_from front [] = Err []
operation_from front (b ∷ text) = by (begun (front ++ b ∷ [])) (operation_from (front ++ b ∷ []) text)
  where
    by : Option Operation → Outcome Operation → Outcome Operation
    by None more = Err text
    by (Some kind) more = if length (operation_text kind) == length front + 1 then Ok (kind, text) else more

unfoldable pub operation : Parser Operation
operation = operation_from []

-- so many of these bytes, whatever comes behind them, are an operation and the blank behind it
abbrev pub IsOperationIn : Text → Operation → ℕ → Type 0
IsOperationIn bytes kind count =
    (count ≤ length bytes) × ((left : Text) → operation (bytes ++ left) ≡ Ok (kind, drop count (bytes ++ left)))

-- a mode, and the blank behind it
unfoldable pub mode : Parser Mode
mode = byte >>= λ b.
    if b == 105 then exactly (codes "rp ") >> pure Irp
    else (if b == 102 then exactly (codes "ast ") >> pure Fast else wrong)

-- a key, up to the end of the line
unfoldable pub key : Parser Key
key = byte >>= λ b.
    if b == 115 then (do
      exactly (codes "tream ")
      file ← number 10
      pure (Stream file))
    else (if b == 105 then exactly (codes "nstance" ++ 10 ∷ []) >> pure Instance else wrong)

-- whether it was granted, up to the end of the line
unfoldable pub grant : Parser Bool
grant = byte >>= λ b.
    if b == 121 then exactly (codes "es" ++ 10 ∷ []) >> pure true
    else (if b == 110 then exactly (codes "o" ++ 10 ∷ []) >> pure false else wrong)

-- ---- lines, each from its second byte on

-- the rest of a word, and the number behind it that ends the line
unfoldable pub numbered : Text → Parser ℕ
numbered word = exactly word >> number 10

-- the rest of a word, and two numbers behind it that end the line
unfoldable pub twice_numbered : Text → Parser (ℕ × ℕ)
twice_numbered word = do
  exactly word
  first ← number 32
  second ← number 10
  pure (first, second)

-- "arrive"
unfoldable pub arrive : Parser Move
arrive = do
  exactly (codes "rrive ")
  o ← operation
  m ← mode
  file ← number 10
  pure (moves.Arrive o m file)

-- "pre" or "post"
unfoldable pub pre_or_post : Parser Move
pre_or_post = byte >>= λ b.
    if b == 114 then numbered (codes "e ") >>= (λ serial. pure (moves.Pre serial))
    else (if b == 111 then numbered (codes "st ") >>= (λ serial. pure (moves.Post serial)) else wrong)

-- "cancel" or "canceled"
unfoldable pub cancel_or_canceled : Parser Move
cancel_or_canceled = exactly (codes "ancel") >> (byte >>= λ b.
    if b == 32 then (do
      serial ← number 10
      pure (moves.Cancel serial))
    else (if b == 101 then twice_numbered (codes "d ") >>= (λ q. pure (moves.Canceled q.0 q.1)) else wrong))

-- "detach" or "detached", behind "de"
unfoldable pub detach_or_detached : Parser Move
detach_or_detached = exactly (codes "tach") >> (byte >>= λ b.
    if b == 32 then (do
      altitude ← number 10
      pure (moves.Detach altitude))
    else (if b == 101 then numbered (codes "d ") >>= (λ altitude. pure (moves.Detached altitude)) else wrong))

-- "detach", "detached" or "drain"
unfoldable pub detach_or_drain : Parser Move
detach_or_drain = byte >>= λ b.
    if b == 101 then detach_or_detached
    else (if b == 114 then twice_numbered (codes "ain ") >>= (λ q. pure (moves.Drain q.0 q.1)) else wrong)

-- "unlink"
unfoldable pub unlink : Parser Move
unlink = do
  exactly (codes "nlink ")
  altitude ← number 32
  k ← key
  pure (moves.Unlink altitude k)

-- "go"
unfoldable pub go : Parser JournalEntry
go = do
  exactly (codes "o ")
  activation ← number 32
  steps ← number 32
  granted ← grant
  pure (entries.Go activation steps granted)

-- a move's line that begins with this byte
unfoldable pub move_by : ℕ → Parser Move
move_by b =
    if b == 97 then arrive
    else (if b == 112 then pre_or_post
    else (if b == 115 then numbered (codes "kip ") >>= (λ serial. pure (moves.Skip serial))
    else (if b == 108 then numbered (codes "ower ") >>= (λ serial. pure (moves.Lower serial))
    else (if b == 99 then cancel_or_canceled
    else (if b == 119 then numbered (codes "ork ") >>= (λ item. pure (moves.Work item))
    else (if b == 100 then detach_or_drain
    else (if b == 117 then unlink else wrong)))))))

-- the line of an entry, or the last line
unfoldable pub line : Parser (Option JournalEntry)
line = byte >>= λ b.
    if b == 101 then exactly (codes "nd" ++ 10 ∷ []) >> pure None
    else (if b == 103 then (do
      entry ← go
      pure (Some entry))
    else (do
      move ← move_by b
      pure (Some (entries.Move move))))

-- ---- the whole of a journal

-- where a journal ends, in error: its first malformed line, and the bytes that are left unread
pub record Fault : Type 0 where
  pub line : ℕ
  pub left : Text

-- the entries, of all the bytes
abbrev pub Reading : Type 0
Reading = Result Entries Fault

-- what stands in the line of this number
abbrev pub at_line : {A : Type 0} → ℕ → Outcome A → (A × Text → Reading) → Reading
at_line n (Ok x) f = f x
at_line n (Err left) f = Err (record { line = n; left = left })

-- nothing follows the last line
abbrev pub closed : Entries → Text → Reading
closed found [] = Ok found
closed found (b ∷ text) = Err (record { line = length found + 3; left = text })

-- behind these entries the last line
abbrev pub ending : Entries → Text → Reading
ending found text = at_line (length found + 2) (exactly last_line text) (λ q. closed found q.1)

-- behind a line: the end of the bytes, or the lines that follow an entry
abbrev pub behind : (Entries → Text → Reading) → Entries → Option JournalEntry → Text → Reading
behind next found None text = closed found text
behind next found (Some entry) text = next (found ++ entry ∷ []) text

-- as many entries as may still come, behind those that were read, and the last line
unfoldable pub entries_from : ℕ → Entries → Text → Reading
entries_from zero found text = ending found text
entries_from (suc left) found text = at_line (length found + 2) (line text) (λ q. behind (entries_from left) found q.0 q.1)

-- the whole of a journal
unfoldable pub journal : Text → Reading
journal text = at_line 1 (exactly first_line text) (λ q. entries_from most_entries [] q.1)

-- ---- what a function that reads ensures: what is read, unless the reader fails or memory runs out

-- what was read, or that a byte is malformed, and what is left
abbrev pub Reads : {A : Type 0} → Outcome A → Result A Stop → Text → Type 0
Reads outcome (Ok x) left = outcome ≡ Ok (x, left)
Reads outcome (Err Wrong) left = outcome ≡ Err left
Reads outcome (Err Failed) left = Unit {0}

-- the count of failures is another one where the reader failed, and there alone
abbrev pub Counts : {A : Type 0} → Result A Stop → ℕ → ℕ → Type 0
Counts (Ok x) old new = new ≡ old
Counts (Err Wrong) old new = new ≡ old
Counts (Err Failed) old new = new ≢ old

-- the entries, and nothing is left; or the line, and what is left
abbrev pub ReadsAll : Reading → Result Entries JournalFault → Text → Type 0
ReadsAll reading (Ok found) left = (reading ≡ Ok found) × (left ≡ [])
ReadsAll reading (Err (faults.Line n)) left = reading ≡ Err (record { line = n; left = left })
ReadsAll reading (Err faults.Read) left = Unit {0}
ReadsAll reading (Err faults.OutOfMemory) left = Unit {0}

-- the count of failures is another one where the reader failed, and there alone
abbrev pub CountsAll : {A : Type 0} → Result A JournalFault → ℕ → ℕ → Type 0
CountsAll (Ok x) old new = new ≡ old
CountsAll (Err faults.Read) old new = new ≢ old
CountsAll (Err (faults.Line n)) old new = new ≡ old
CountsAll (Err faults.OutOfMemory) old new = new ≡ old

-- the reader failed, or memory ran out
abbrev pub IsHindrance : JournalFault → Type 0
IsHindrance (faults.Line n) = ⊥
IsHindrance faults.Read = Unit {0}
IsHindrance faults.OutOfMemory = Unit {0}

-- a fault of the text names the line of the first malformed byte, and the rest is left
abbrev pub IsFaultOf : Text → JournalFault → Text → Type 0
IsFaultOf text (faults.Line n) left = IsFirstFault text n left
IsFaultOf text faults.Read left = Unit {0}
IsFaultOf text faults.OutOfMemory left = Unit {0}
