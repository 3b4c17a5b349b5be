-- What each byte of a C file belongs to: code, annotations, comments `@flt-`, or something else. The C standard's translation phases 2 and
-- 3; the marker is this project's own rule.
use Rattle.std.specs.Prelude.{◌≡◌, ℕ, zero, suc, ◌-◌, Bool, true, false, not, ◌&&◌, ◌||◌, if◌then◌else◌, ◌==◌}
use Rattle.std.specs.Prelude.{nat_lt, List, [], ◌∷◌, ◌++◌, length, map, Option, Some, None, Result, Ok, Err}
use Rattle.flt_c.specs.declared.fault.Fault.{Fault}
use Rattle.flt_c.specs.declared.fault.FaultKind.{FaultKind}
use Rattle.flt_c.specs.declared.files.Flaw.{Flaw}
use Rattle.flt_c.specs.declared.files.Flaw.TheVariants.{Faulty, Large}
use Rattle.flt_c.specs.declared.letter.Letter.{Letter}
use Rattle.flt_c.specs.declared.letter.Part.{Part}
use Rattle.flt_c.specs.declared.letter.Part.TheVariants as part
use Rattle.flt_c.specs.declared.mode.Mode.{Mode}
use Rattle.flt_c.specs.declared.mode.Mode.TheVariants as m
use Rattle.flt_c.specs.declared.scan.Scanner.{Scanner}
use Rattle.flt_c.specs.Fronts.{is_code, is_directive}
use Rattle.flt_c.specs.Modes.{is_note}
use Rattle.flt_c.specs.Scan.{◌>>=◌, blamed, continuation, join, open_at_end, start, step}

-- a marker was read
abbrev pub is_marked : Mode → Bool
is_marked m.LineMarked = true
is_marked m.BlockMarked = true
is_marked _ = false

-- a comment that is no annotation is being read
abbrev pub is_plain_comment : Mode → Bool
is_plain_comment m.Line = true
is_plain_comment m.Block = true
is_plain_comment m.BlockStar = true
is_plain_comment _ = false

-- a comment `@flt-` begins with the `-` after the marker, and goes on as long as the comment does
abbrev pub is_aside : Scanner → ℕ → Bool → Scanner → Bool
is_aside s b before next = is_marked s.mode && b == 45 || before && is_plain_comment next.mode

-- a byte is code that a compiler reads: of no directive, and of no group that is skipped; a `/`, which may begin a comment, doesn't count
abbrev pub is_compiled : Scanner → ℕ → Scanner → Bool
is_compiled s b next = is_code s.mode && is_code next.mode && not (b == 47 || is_directive next.front || nat_lt 0 s.depth)

-- what a byte belongs to, by where reading is before it and after it, and by whether a comment `@flt-` is being read after it
abbrev pub part_of : Scanner → ℕ → Bool → Scanner → Part
part_of s b aside next =
    if is_note s.mode && is_note next.mode then part.Note
    else (if aside then part.Aside else (if is_compiled s b next then part.Code else part.Other))

-- a byte that is read
abbrev pub letter_of : Scanner → ℕ → Bool → Scanner → Letter
letter_of s b aside next = record { byte = b; part = part_of s b aside next }

-- a byte of a continuation
abbrev pub other : ℕ → Letter
other b = record { byte = b; part = part.Other }

-- letters before those that are read on
abbrev pub with_letters : List Letter → Result (List Letter) Fault → Result (List Letter) Fault
with_letters front (Ok ls) = Ok (front ++ ls)
with_letters front (Err f) = Err f

-- the end, by what isn't closed there
abbrev pub letters_end : Scanner → Option FaultKind → Result (List Letter) Fault
letters_end s None = Ok []
letters_end s (Some kind) = Err (blamed s kind)

-- the letters of a text, of whose first continuation `left` bytes are left over; a comment `@flt-` is being read or not
abbrev pub letters_from : ℕ → Scanner → Bool → List ℕ → Result (List Letter) Fault
letters_from left s aside [] = letters_end s (open_at_end s)
letters_from (suc left) s aside (b ∷ z) = with_letters (other b ∷ []) (letters_from left s aside z)
letters_from zero s aside (b ∷ z) =
    let n = continuation (b ∷ z) in
    if n == 0 then
    step s b >>= (λ next. let on = is_aside s b aside next in with_letters (letter_of s b on next ∷ []) (letters_from zero next on z))
    else join s n >>= (λ next. with_letters (other b ∷ []) (letters_from (n - 1) next aside z))

-- a fault is a flaw of its file
abbrev pub flawed : {A : Type 0} → Result A Fault → Result A Flaw
flawed (Ok x) = Ok x
flawed (Err f) = Err (Faulty f)

-- the bytes of a file, each with what it belongs to; or the first fault that reading meets
abbrev pub letters_of : List ℕ → Result (List Letter) Fault
letters_of file = letters_from zero start false file

-- the same of a file of at most 16 MB
abbrev pub letters : List ℕ → Result (List Letter) Flaw
letters file = if nat_lt 16777216 (length file) then Err Large else flawed (letters_of file)

-- the letters of a file are its bytes, all of them, one after the other
abbrev pub LettersAreTheFile : Type 0
LettersAreTheFile = (file : List ℕ) (found : List Letter) → letters file ≡ Ok found → map (λ letter. letter.byte) found ≡ file
