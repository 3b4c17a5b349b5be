-- Runs of letters with which nothing begins or ends: letters of a word, and letters of no word. This project's own rule.
use Rattle.std.specs.Prelude.{ℕ, ◌+◌, Bool, false, not, ◌&&◌, if◌then◌else◌, ◌==◌, List, [], ◌∷◌, ◌++◌, map}
use Rattle.flt_c.specs.declared.letter.Letter.{Letter}
use Rattle.flt_c.specs.declared.letter.Part.{Part}
use Rattle.flt_c.specs.declared.letter.Part.TheVariants as part
use Rattle.flt_c_drift.specs.Locks.{is_no_argument, is_nothing, is_other}
use Rattle.flt_c_drift.specs.Parts.{is_blank, is_word_byte, same_part}
use Rattle.flt_c_drift.specs.Reading.{State, is_empty, is_under_way}
use Rattle.flt_c_drift.specs.declared.run.Run.{Run}
use Rattle.flt_c_drift.specs.declared.run.Run.TheVariants as r

-- ---- letters

-- a letter of no word, with which nothing begins or ends: a blank of code, or neither code nor of an annotation
abbrev pub is_idle_in : Part → ℕ → Bool
is_idle_in part.Other b = not (b == 10)
is_idle_in part.Code b = is_blank b && not (b == 10)
is_idle_in _ b = false

-- a letter belongs to a run
abbrev pub is_in : Run → Letter → Bool
is_in r.No letter = false
is_in r.Idle letter = is_idle_in letter.part letter.byte
is_in (r.Word p) letter = same_part p letter.part && is_word_byte letter.byte

-- how many letters of a run come first
abbrev pub run_count : Run → List Letter → ℕ
run_count run [] = 0
run_count run (letter ∷ letters) = if is_in run letter then run_count run letters + 1 else 0

-- ---- where they are read

-- the line isn't at its first letter, and no comment `@flt-call` and no argument is being read
abbrev pub is_calm : State → Bool
is_calm s = not s.line.fresh && (not (is_under_way s.stage) && is_no_argument s.locks.argument)

-- a word of code is being read
abbrev pub is_code_word : State → Bool
is_code_word s = not s.code.brace && (not s.line.noted && is_nothing s.locks.line)

-- a word of an annotation is being read, and none of a remark or of the declaration of a lock
abbrev pub is_note_word : State → Bool
is_note_word s = s.line.here && (not s.line.remark && is_other s.locks.line)

-- the run that goes on with the word
abbrev pub word_run : Part → State → Run
word_run part.Code s = if is_code_word s then r.Word part.Code else r.No
word_run part.Note s = if is_note_word s then r.Word part.Note else r.No
word_run _ s = r.No

-- the run that goes on
abbrev pub run_in : State → Run
run_in s =
    if not (is_calm s) then r.No
    else (if not (is_empty s.word) then word_run s.spoken.part s else (if is_nothing s.locks.line then r.Idle else r.No))

-- ---- after them

-- with this word
abbrev pub with_word : List ℕ → State → State
with_word word s = record {
  word = word;
  spoken = s.spoken;
  line = s.line;
  code = s.code;
  stage = s.stage;
  opened = s.opened;
  function = s.function;
  wrappings = s.wrappings;
  locks = s.locks;
  marks = s.marks;
}

-- some letters of a run more
abbrev pub run_taken : Run → List Letter → State → State
run_taken (r.Word p) letters s = with_word (s.word ++ map (λ letter. letter.byte) letters) s
run_taken _ letters s = s
