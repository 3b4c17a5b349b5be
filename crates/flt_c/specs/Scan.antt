-- How a C file is read, byte by byte, and which bytes of it are the text of its annotations. The C standard's translation phases 2 and 3.
use Rattle.std.specs.Prelude.{ℕ, zero, suc, ◌-◌, Bool, true, false, not, ◌&&◌, if◌then◌else◌, ◌==◌}
use Rattle.std.specs.Prelude.{List, [], ◌∷◌, ◌++◌, Option, Some, None, Result, Ok, Err, nat_lt}
use Rattle.flt_c.specs.declared.fault.Fault.{Fault}
use Rattle.flt_c.specs.declared.fault.FaultKind.{FaultKind}
use Rattle.flt_c.specs.declared.fault.FaultKind.TheVariants as k
use Rattle.flt_c.specs.declared.front.Front.TheVariants.{Nothing}
use Rattle.flt_c.specs.declared.mode.Mode.{Mode}
use Rattle.flt_c.specs.declared.mode.Mode.TheVariants as m
use Rattle.flt_c.specs.declared.place.Place.{Place}
use Rattle.flt_c.specs.declared.place.PlacedByte.{PlacedByte}
use Rattle.flt_c.specs.declared.scan.Opening.{Opening}
use Rattle.flt_c.specs.declared.scan.Opening.TheVariants as o
use Rattle.flt_c.specs.declared.scan.Scanner.{Scanner}
use Rattle.flt_c.specs.Fronts.{next_front, next_depth, is_lenient, begins_directive}
use Rattle.flt_c.specs.Modes.{is_blank, is_note, turn, unended}
use Rattle.flt_c.specs.Places.{past, past_continuation, first_place}

-- ---- where reading is

-- whether something that has an end of its own begins with this byte, or began with the one before
abbrev pub opened_by : Mode → Mode → Opening
opened_by old (m.LineMark wanted) = if wanted == 64 then o.Before else o.No
opened_by old (m.BlockMark wanted) = if wanted == 64 then o.Before else o.No
opened_by m.String m.String = o.No
opened_by m.StringEscape m.String = o.No
opened_by old m.String = o.Here
opened_by m.Character m.Character = o.No
opened_by m.CharacterEscape m.Character = o.No
opened_by old m.Character = o.Here
opened_by old _ = o.No

-- where it began
abbrev pub opened_at : Scanner → Opening → Place
opened_at s o.No = s.opened
opened_at s o.Here = s.at
opened_at s o.Before = s.last

-- where what is read in a mode began
abbrev pub opening : Scanner → Mode → Place
opening s new = opened_at s (opened_by s.mode new)

-- where the directive began that may begin a group which is skipped
abbrev pub grouping : Scanner → ℕ → Place
grouping s b = if begins_directive s.front (next_front s.mode s.front b) && s.depth == 0 then s.at else s.group

-- a raw string is reported at its quote, a group at its directive, other faults where what they are about began
abbrev pub blamed : Scanner → FaultKind → Fault
blamed s k.RawString = record { kind = k.RawString; place = s.at }
blamed s k.Group = record { kind = k.Group; place = s.group }
blamed s kind = record { kind = kind; place = s.opened }

-- an annotation begins after its marker
abbrev pub begins : Scanner → Mode → Bool
begins s mode = is_note mode && not (is_note s.mode)

-- the last annotation of the line
abbrev pub noting : Scanner → ℕ → Mode → Option Place
noting s b mode = if b == 10 && not (is_note mode) then None else (if begins s mode then Some s.opened else s.noted)

-- one byte more, after which this is read; an annotation begins in no line that goes on from another by a continuation
abbrev pub go_on : Scanner → ℕ → Mode → Result Scanner Fault
go_on s b mode =
    if begins s mode && s.joined then Err (blamed s k.Continued)
    else Ok (record {
      mode = mode;
      front = next_front s.mode s.front b;
      depth = next_depth s.mode s.front s.depth b;
      at = past s.at b;
      last = s.at;
      opened = opening s mode;
      group = grouping s b;
      joined = s.joined && not (b == 10);
      noted = noting s b mode;
    })

-- one byte more, by what is read after it
abbrev pub step_by : Scanner → ℕ → Result Mode FaultKind → Result Scanner Fault
step_by s b (Ok mode) = go_on s b mode
step_by s b (Err kind) = Err (blamed s kind)

-- one byte more
abbrev pub step : Scanner → ℕ → Result Scanner Fault
step s b = step_by s b (turn (is_lenient s.front s.depth) (nat_lt 0 s.depth) s.mode b)

-- a backslash at the end of a line, and that end: so many bytes, or 0
abbrev pub continuation : List ℕ → ℕ
continuation (a ∷ b ∷ c ∷ z) = if not (a == 92) then 0 else (if b == 10 then 2 else (if b == 13 && c == 10 then 3 else 0))
continuation (a ∷ b ∷ []) = if a == 92 && b == 10 then 2 else 0
continuation _ = 0

-- a continuation more, by the last annotation of its line
abbrev pub join_by : Scanner → ℕ → Option Place → Result Scanner Fault
join_by s n (Some place) = Err (record { kind = k.Continued; place = place })
join_by s n None =
    Ok (record {
      mode = s.mode;
      front = s.front;
      depth = s.depth;
      at = past_continuation s.at n;
      last = s.last;
      opened = s.opened;
      group = s.group;
      joined = true;
      noted = None;
    })

-- a continuation more: it stands in no annotation, and after none in its line
abbrev pub join : Scanner → ℕ → Result Scanner Fault
join s n = if is_note s.mode then Err (blamed s k.Continued) else join_by s n s.noted

-- where a file begins
abbrev pub start : Scanner
start = record {
  mode = m.Code;
  front = Nothing;
  depth = 0;
  at = first_place;
  last = first_place;
  opened = first_place;
  group = first_place;
  joined = false;
  noted = None;
}

-- ---- the text

-- one byte with its place
abbrev pub placed : ℕ → Place → List PlacedByte
placed b at = record { byte = b; place = at } ∷ []

-- what a byte adds: itself, after the marker; the end of a block ends a line, so a `*` waits for the byte after it
abbrev pub added_in : Mode → Scanner → ℕ → List PlacedByte
added_in m.LineText s b = placed b s.at
added_in m.LineMarked s b = if is_blank b then placed b s.at else []
added_in m.BlockMarked s b = if is_blank b then placed b s.at else []
added_in m.BlockText s b = if b == 42 then [] else placed b s.at
added_in m.BlockTextStar s b =
    if b == 47 then placed 10 s.last else (if b == 42 then placed 42 s.last else placed 42 s.last ++ placed b s.at)
added_in _ s b = []

-- the same, by what is being read
abbrev pub added : Scanner → ℕ → List PlacedByte
added s b = added_in s.mode s b

-- an annotation that the file ends in ends there
abbrev pub last_line : Scanner → List PlacedByte
last_line s = if is_note s.mode then placed 10 s.at else []

-- ---- a file

-- or a group that is skipped
abbrev pub or_group : Scanner → Option FaultKind → Option FaultKind
or_group s (Some kind) = Some kind
or_group s None = if nat_lt 0 s.depth then Some k.Group else None

-- what isn't closed where the file ends: a comment, a string or a character constant, or a group that is skipped
abbrev pub open_at_end : Scanner → Option FaultKind
open_at_end s = or_group s (unended (is_lenient s.front s.depth) s.mode)

-- bytes before what is read on
abbrev pub with_front : List PlacedByte → Result (List PlacedByte) Fault → Result (List PlacedByte) Fault
with_front front (Ok ps) = Ok (front ++ ps)
with_front front (Err f) = Err f

-- the end, by what isn't closed there
abbrev pub end_by : Scanner → Option FaultKind → Result (List PlacedByte) Fault
end_by s None = Ok (last_line s)
end_by s (Some kind) = Err (blamed s kind)

-- what the end of a file adds
abbrev pub end : Scanner → Result (List PlacedByte) Fault
end s = end_by s (open_at_end s)

infixl 10 ◌>>=◌
-- what follows, unless there is a fault
abbrev pub ◌>>=◌ : {A B : Type 0} → Result A Fault → (A → Result B Fault) → Result B Fault
(Ok x) >>= f = f x
(Err e) >>= f = Err e

-- what is read of a text: of a continuation `left` bytes are left over
abbrev pub read : ℕ → Scanner → List ℕ → Result (List PlacedByte) Fault
read left s [] = end s
read (suc left) s (b ∷ z) = read left s z
read zero s (b ∷ z) =
    let n = continuation (b ∷ z) in
    if n == 0 then step s b >>= (λ next. with_front (added s b) (read zero next z)) else join s n >>= (λ next. read (n - 1) next z)

-- the bytes of a file's annotations with their places, or the first fault that reading meets
abbrev pub annotations : List ℕ → Result (List PlacedByte) Fault
annotations file = read zero start file
