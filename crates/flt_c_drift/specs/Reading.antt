-- How the marks of a file are found, letter by letter. This project's own rule.
use Rattle.std.specs.Prelude.{ℕ, ◌+◌, Bool, true, false, not, ◌&&◌, ◌||◌, if◌then◌else◌, ◌==◌}
use Rattle.std.specs.Prelude.{List, [], ◌∷◌, ◌++◌, length, codes, Option, Some, None, is_some}
use Rattle.std.specs.Str.{bytes_eq}
use Rattle.flt_c.specs.declared.letter.Letter.{Letter}
use Rattle.flt_c.specs.declared.letter.Part.{Part}
use Rattle.flt_c.specs.declared.letter.Part.TheVariants as part
use Rattle.flt_c_drift.specs.Locks.{LockState, called, guard, is_still, locks_in, no_locks, read, taken as argument_taken}
use Rattle.flt_c_drift.specs.Marks.{before_of, said_by_code, said_by_note}
use Rattle.flt_c_drift.specs.Names.{c_operation_of, call_of, is_major_function, lock_call_of}
use Rattle.flt_c_drift.specs.Parts.{is_aside, is_blank, is_code, is_note, is_of_word, same_part}
use Rattle.flt_c_drift.specs.Wrappers.{Wrapping, with_wrapping}
use Rattle.flt_c_drift.specs.declared.mark.Mark.{Mark}
use Rattle.flt_c_drift.specs.declared.mark.MarkKind.{MarkKind}
use Rattle.flt_c_drift.specs.declared.mark.MarkKind.TheVariants as k
use Rattle.flt_c_drift.specs.declared.reader.Code.{Code}
use Rattle.flt_c_drift.specs.declared.reader.Line.{Line}
use Rattle.flt_c_drift.specs.declared.reader.Reader.{Reader}
use Rattle.flt_c_drift.specs.declared.reader.WordState.{WordState}
use Rattle.flt_c_drift.specs.declared.reader.Stage.{Stage}
use Rattle.flt_c_drift.specs.declared.reader.Stage.TheVariants as stage
use Rattle.flt_c_drift.specs.declared.word.Before.{Before}
use Rattle.flt_c_drift.specs.declared.word.Before.TheVariants as before
use Rattle.flt_c_drift.specs.declared.word.Entry.{Entry}
use Rattle.flt_c_drift.specs.declared.word.Entry.TheVariants as entry

-- where reading is: the word that is being read and what is known of it, of its line and of the code; of a comment `@flt-call` how far
-- it is read, where it began, and its function; the functions that make calls, the locks, and the marks so far
pub record State : Type 0 where
  pub word : List ℕ
  pub spoken : WordState
  pub line : Line
  pub code : Code
  pub stage : Stage
  pub opened : ℕ
  pub function : List ℕ
  pub wrappings : List Wrapping
  pub locks : LockState
  pub marks : List Mark

-- that of a reader
abbrev pub state_in : Reader → State
state_in r = record {
  word = r.word.items;
  spoken = r.spoken;
  line = r.line;
  code = r.code;
  stage = r.stage;
  opened = r.opened;
  function = r.function.items;
  wrappings = r.wrappers;
  locks = locks_in r.locks;
  marks = r.marks.items;
}

-- ---- words

-- what a letter is read as: a `#` in an annotation begins a remark, which goes to the line's end
abbrev pub seen : Line → Letter → Part
seen line letter = if line.remark && is_note letter.part then part.Other else letter.part

-- what the word is after which a word stands; both are of one part
abbrev pub before_word : WordState → Before
before_word spoken = if same_part spoken.before_part spoken.part then spoken.before else before.Nothing

-- what is known after a word
abbrev pub spoken_after : WordState → List ℕ → WordState
spoken_after spoken word =
    record { part = spoken.part; begin = spoken.begin; opens = spoken.opens; before = before_of word; before_part = spoken.part }

-- `@flt-only`: the line's annotations are of the text alone
abbrev pub line_after : Part → List ℕ → Line → Line
line_after p word line = record {
  remark = line.remark;
  alone = line.alone || is_aside p && bytes_eq word (codes "-only");
  noted = line.noted;
  here = line.here;
  fresh = line.fresh;
  closing = line.closing;
}

-- an entry of one of the operations, or of another major function
abbrev pub named_entry : Bool → Option ℕ → Entry → Entry
named_entry major (Some operation) at = entry.Name (Some operation)
named_entry major None at = if major then entry.Name None else at

-- an entry of a table begins with a `{` and the name of a major function
abbrev pub code_after : WordState → List ℕ → Code → Code
code_after spoken word code =
    record {
      brace = code.brace;
      entry = if is_code spoken.part && spoken.opens then named_entry (is_major_function word) (c_operation_of word) code.entry
          else code.entry;
    }

-- what a word says
abbrev pub said_by : State → Part → Option MarkKind
said_by s part.Code = said_by_code s.wrappings s.code.entry (before_word s.spoken) s.word
said_by s part.Note = said_by_note s.line.alone (before_word s.spoken) s.word
said_by s _ = None

-- a mark more, if there is one
abbrev pub with_mark : List Mark → ℕ → ℕ → Option MarkKind → List Mark
with_mark marks start length None = marks
with_mark marks start length (Some kind) = marks ++ (record { kind = kind; start = start; length = length } ∷ [])

-- what the word says is said
abbrev pub say : State → State
say s = record {
  word = s.word;
  spoken = s.spoken;
  line = s.line;
  code = s.code;
  stage = s.stage;
  opened = s.opened;
  function = s.function;
  wrappings = s.wrappings;
  locks = s.locks;
  marks = with_mark s.marks s.spoken.begin (length s.word) (said_by s s.spoken.part);
}

-- with these locks
abbrev pub with_locks : LockState → State → State
with_locks locks s = record {
  word = s.word;
  spoken = s.spoken;
  line = s.line;
  code = s.code;
  stage = s.stage;
  opened = s.opened;
  function = s.function;
  wrappings = s.wrappings;
  locks = locks;
  marks = s.marks;
}

-- with this mark
abbrev pub with_one : Mark → State → State
with_one mark s = record {
  word = s.word;
  spoken = s.spoken;
  line = s.line;
  code = s.code;
  stage = s.stage;
  opened = s.opened;
  function = s.function;
  wrappings = s.wrappings;
  locks = s.locks;
  marks = s.marks ++ (mark ∷ []);
}

-- the first argument of a lock's call comes after its name in code
abbrev pub call_named : State → State
call_named s = if is_code s.spoken.part then with_locks (called (lock_call_of s.word) s.locks) s else s

-- the call of a lock after which a word stands
abbrev pub lock_call_before : Before → Option ℕ
lock_call_before (before.Lock call) = Some call
lock_call_before _ = None

abbrev pub guarded_by : Option ℕ → State → State
guarded_by None s = s
guarded_by (Some call) s = with_one (guard s.locks call s.word s.spoken.begin) s

-- a word of an annotation is the name of a lock after a call, unless it is a call itself; in one of the text alone it says nothing
abbrev pub guarded : State → State
guarded s =
    if is_note s.spoken.part && not (s.line.alone || is_some (call_of s.word)) then guarded_by (lock_call_before (before_word s.spoken)) s
    else s

-- the word ends
abbrev pub forget : State → State
forget s = record {
  word = [];
  spoken = spoken_after s.spoken s.word;
  line = line_after s.spoken.part s.word s.line;
  code = code_after s.spoken s.word s.code;
  stage = s.stage;
  opened = s.opened;
  function = s.function;
  wrappings = s.wrappings;
  locks = s.locks;
  marks = s.marks;
}

-- ---- comments `@flt-call FUNCTION CALL`

-- a mark of some bytes
abbrev pub mark_at : MarkKind → ℕ → ℕ → Mark
mark_at kind start length = record { kind = kind; start = start; length = length }

-- the comment is read so far
abbrev pub at_stage : Stage → ℕ → List ℕ → State → State
at_stage to opened function s = record {
  word = s.word;
  spoken = s.spoken;
  line = s.line;
  code = s.code;
  stage = to;
  opened = opened;
  function = function;
  wrappings = s.wrappings;
  locks = s.locks;
  marks = s.marks;
}

-- the function makes this call, unless one of its name is declared already
abbrev pub wrapped : ℕ → State → State
wrapped call s = record {
  word = s.word;
  spoken = s.spoken;
  line = s.line;
  code = s.code;
  stage = stage.Nothing;
  opened = s.opened;
  function = s.function;
  wrappings = with_wrapping s.wrappings s.function call;
  locks = s.locks;
  marks = s.marks;
}

-- some bytes of the comment aren't as they should be
abbrev pub refused : ℕ → ℕ → State → State
refused start length s = record {
  word = s.word;
  spoken = s.spoken;
  line = s.line;
  code = s.code;
  stage = stage.Nothing;
  opened = s.opened;
  function = s.function;
  wrappings = s.wrappings;
  locks = s.locks;
  marks = s.marks ++ (mark_at k.Malformed start length ∷ []);
}

-- the function makes a call, if that is one of the calls
abbrev pub declare : Option ℕ → State → State
declare (Some call) s = wrapped call s
declare None s = refused s.spoken.begin (length s.word) s

abbrev pub call_word : State → Option ℕ
call_word s = call_of s.word

-- the word is the comment's function
abbrev pub with_function : State → State
with_function s = at_stage stage.Call s.opened s.word s

-- a comment `@flt-call` may begin with the word
abbrev pub opened_by_word : State → State
opened_by_word s = if bytes_eq s.word (codes "-call") then at_stage stage.Function s.spoken.begin s.function s else s

-- a word of a comment `@flt-` more
abbrev pub aside_by : Stage → State → State
aside_by stage.Nothing s = opened_by_word s
aside_by stage.Function s = with_function s
aside_by stage.Call s = declare (call_word s) s

-- the same of any comment or code
abbrev pub aside : State → State
aside s = if is_aside s.spoken.part then aside_by s.stage s else s

-- what a word says is said where it ends
abbrev pub end_word : State → State
end_word s = forget (call_named (aside (guarded (say s))))

abbrev pub is_empty : List ℕ → Bool
is_empty [] = true
is_empty (b ∷ z) = false

-- a word ends before a letter that doesn't belong to it
abbrev pub ended : Part → ℕ → State → State
ended p b s = if is_empty s.word || same_part s.spoken.part p && is_of_word p b then s else end_word s

abbrev pub is_under_way : Stage → Bool
is_under_way stage.Nothing = false
is_under_way _ = true

-- a comment ends before its function and its call are read
abbrev pub left : Part → State → State
left p s = if not (is_aside p) && is_under_way s.stage then refused s.opened 5 s else s

-- ---- letters

-- where a word begins that a letter belongs to
abbrev pub spoken_with : ℕ → Part → Bool → Bool → WordState → WordState
spoken_with at p begins brace spoken = record {
  part = p;
  begin = if begins then at else spoken.begin;
  opens = if begins then brace else spoken.opens;
  before = spoken.before;
  before_part = spoken.before_part;
}

-- a letter belongs to a word, or to none
abbrev pub grown : ℕ → Part → ℕ → State → State
grown at p b s =
    if is_of_word p b then record {
      word = s.word ++ (b ∷ []);
      spoken = spoken_with at p (is_empty s.word) s.code.brace s.spoken;
      line = s.line;
      code = s.code;
      stage = s.stage;
      opened = s.opened;
      function = s.function;
      wrappings = s.wrappings;
      locks = s.locks;
      marks = s.marks;
    }
    else s

-- the next field of an entry
abbrev pub next_field : Entry → Entry
next_field (entry.Name operation) = entry.Flags operation
next_field (entry.Flags operation) = entry.Pre operation
next_field (entry.Pre operation) = entry.Post operation
next_field _ = entry.Nothing

-- an entry goes on at a `,` and ends at a `}`
abbrev pub entry_after : ℕ → Entry → Entry
entry_after b at = if b == 44 then next_field at else (if b == 125 then entry.Nothing else at)

-- what is known of the code after one letter of it
abbrev pub coded : Part → ℕ → Code → Code
coded p b code = if is_code p && not (is_blank b) then record { brace = b == 123; entry = entry_after b code.entry } else code

-- ---- stretches: some code, and then the annotations about it

-- code begins a stretch where the one before has an annotation in an earlier line
abbrev pub begun : Line → Line
begun line =
    record { remark = line.remark; alone = line.alone; noted = false; here = line.here; fresh = line.fresh; closing = line.closing }

-- the same line with another mark
abbrev pub marked : Line → MarkKind → ℕ → State → State
marked line kind at s = record {
  word = s.word;
  spoken = s.spoken;
  line = line;
  code = s.code;
  stage = s.stage;
  opened = s.opened;
  function = s.function;
  wrappings = s.wrappings;
  locks = s.locks;
  marks = s.marks ++ (mark_at kind at 1 ∷ []);
}

-- a stretch may begin at a letter
abbrev pub cut : ℕ → Part → ℕ → State → State
cut at p b s = if s.line.noted && (is_code p && not (is_blank b)) then marked (begun s.line) k.Cut at s else s

-- the line has an annotation
abbrev pub annotated : Line → Line
annotated line =
    record { remark = line.remark; alone = line.alone; noted = line.noted; here = true; fresh = line.fresh; closing = line.closing }

-- the first letter of an annotation in a line
abbrev pub noted : ℕ → Part → ℕ → State → State
noted at p b s = if not s.line.here && (is_note p && not (is_blank b)) then marked (annotated s.line) k.Noted at s else s

-- a line ends; a function does, where a line begins with `}`
abbrev pub line_ended : Line → Line
line_ended line = record {
  remark = false;
  alone = false;
  noted = line.noted || (line.here || line.closing);
  here = false;
  fresh = true;
  closing = false;
}

-- a line goes on
abbrev pub line_on : Part → ℕ → Line → Line
line_on p b line = record {
  remark = line.remark || is_note p && b == 35;
  alone = line.alone;
  noted = line.noted;
  here = line.here;
  fresh = false;
  closing = line.closing || line.fresh && (is_code p && b == 125);
}

-- a remark may begin
abbrev pub remarked : Part → ℕ → Line → Line
remarked p b line = record {
  remark = line.remark || is_note p && b == 35;
  alone = line.alone;
  noted = line.noted;
  here = line.here;
  fresh = line.fresh;
  closing = line.closing;
}

-- the line begins with a letter, or goes on
abbrev pub begun_by : Part → ℕ → Line → Line
begun_by p b line = record {
  remark = line.remark;
  alone = line.alone;
  noted = line.noted;
  here = line.here;
  fresh = false;
  closing = line.closing || line.fresh && (is_code p && b == 125);
}

-- what is known of the line after a letter
abbrev pub lined : Part → ℕ → Line → Line
lined p b line = if b == 10 then line_ended line else line_on p b line

-- what is known of the line and the code after a letter
abbrev pub passed : Part → ℕ → State → State
passed p b s = record {
  word = s.word;
  spoken = s.spoken;
  line = lined p b s.line;
  code = coded p b s.code;
  stage = s.stage;
  opened = s.opened;
  function = s.function;
  wrappings = s.wrappings;
  locks = s.locks;
  marks = s.marks;
}

-- ---- locks

abbrev pub with_option : Option Mark → State → State
with_option None s = s
with_option (Some mark) s = with_one mark s

-- the locks after a letter, and the mark of an argument that ends before it
abbrev pub locked : ℕ → Part → ℕ → State → State
locked at p b s =
    with_locks (read at p b (length s.marks) s.locks) (with_option (argument_taken at p b (length s.marks) s.locks) s)

-- ---- a file

-- what else than a word ends before a letter or begins with it
unfoldable pub turned : ℕ → Part → ℕ → State → State
turned at p b s = locked at p b (noted at p b (cut at p b (left p s)))

-- no word ends before a letter
abbrev pub keeps_word : Part → ℕ → State → Bool
keeps_word p b s = is_empty s.word || same_part s.spoken.part p && is_of_word p b

-- no comment `@flt-call` does
abbrev pub keeps_stage : Part → State → Bool
keeps_stage p s = is_aside p || not (is_under_way s.stage)

-- no stretch begins with it, and no annotation of the line
abbrev pub keeps_line : Part → ℕ → Line → Bool
keeps_line p b line = is_blank b || not (line.noted && is_code p || not line.here && is_note p)

-- nothing but a word ends or begins
abbrev pub goes_on : Part → ℕ → State → Bool
goes_on p b s = keeps_stage p s && keeps_line p b s.line && is_still p b s.locks

-- one letter more, as this part
unfoldable pub taken_as : ℕ → Part → ℕ → State → State
taken_as at p b s = passed p b (grown at p b (locked at p b (noted at p b (cut at p b (left p (ended p b s))))))

-- one letter more
abbrev pub taken : ℕ → Letter → State → State
taken at letter s = taken_as at (seen s.line letter) letter.byte s

-- some letters more, from a place on
abbrev pub taken_all : ℕ → List Letter → State → State
taken_all at [] s = s
taken_all at (letter ∷ letters) s = taken_all (at + 1) letters (taken at letter s)

-- nothing is read
abbrev pub start : State
start = record {
  word = [];
  spoken = record { part = part.Other; begin = 0; opens = false; before = before.Nothing; before_part = part.Other };
  line = record { remark = false; alone = false; noted = false; here = false; fresh = true; closing = false };
  code = record { brace = false; entry = entry.Nothing };
  stage = stage.Nothing;
  opened = 0;
  function = [];
  wrappings = [];
  locks = no_locks;
  marks = [];
}

-- the file ends, and a word and a comment with it
abbrev pub at_end : State → State
at_end s = left part.Other (if is_empty s.word then s else end_word s)

-- the marks after some letters more, from a place on
abbrev pub marks_from : ℕ → State → List Letter → List Mark
marks_from at s [] = (at_end s).marks
marks_from at s (letter ∷ letters) = marks_from (at + 1) (taken at letter s) letters

-- the marks of a file, in order
abbrev pub marks_of : List Letter → List Mark
marks_of letters = marks_from 0 start letters
