-- What the text of annotations is in C. This project's own rule.
use Rattle.std.specs.Prelude.{◌≡◌, ◌⊎◌, ℕ, zero, suc, ◌+◌, ◌-◌, ◌<◌, ◌≤◌, Bool, true, false, ◌==◌, ◌&&◌, not, if◌then◌else◌}
use Rattle.std.specs.Prelude.{List, [], ◌∷◌, ◌++◌, length, slice_index, slice_index_or, Result, Ok, Err}
use Rattle.std.specs.List.{AllByRecursion}
use Rattle.flt_c.specs.declared.fault.Fault.{Fault}
use Rattle.flt_c.specs.declared.mode.Mode.{Mode}
use Rattle.flt_c.specs.declared.mode.Mode.TheVariants as m
use Rattle.flt_c.specs.declared.place.Place.{Place}
use Rattle.flt_c.specs.declared.place.PlacedByte.{PlacedByte}
use Rattle.flt_c.specs.declared.scan.Scanner.{Scanner}
use Rattle.flt_c.specs.declared.text.Line.{Line}
use Rattle.flt_c.specs.Files.{extracted}
use Rattle.flt_c.specs.Locks.{plain}
use Rattle.flt_c.specs.Modes.{is_note}
use Rattle.flt_c.specs.Places.{first_place, place_of}
use Rattle.flt_c.specs.Scan.{annotations, continuation, join, start, step}
use Rattle.flt_c.specs.Texts.{Text}

-- ---- each byte of the text stands in C

-- the place of the next byte of a line
abbrev pub beside : Place → Place
beside at = record { line = at.line; column = at.column + 1; start = at.start + 1 }

-- an annotation ends before this byte: at a `*/`, or with the file
abbrev pub IsEnd : List ℕ → ℕ → Type 0
IsEnd file n = ((slice_index file n ≡ 42) × (slice_index file (n + 1) ≡ 47)) ⊎ (n ≡ length file)

-- a byte of the text stands at a place of a file, whose line and column are right; or it ends a line where an annotation ends
abbrev pub IsAt : List ℕ → Place → ℕ → Type 0
IsAt file at b = (place_of file at.start ≡ at) × ((slice_index file at.start ≡ b) ⊎ ((b ≡ 10) × IsEnd file at.start))

-- a line begins further on than this: in the same file, or in a later one
abbrev pub IsFurther : Line → Line → Type 0
IsFurther end line = (end.file < line.file) ⊎ ((end.file ≡ line.file) × (end.place.start ≤ line.place.start))

-- the byte after one of a line
abbrev pub beside_in : Line → Line
beside_in at = record { file = at.file; place = beside at.place }

-- the bytes of a text stand in C: where a line begins at the place that is kept for it, further on than the line before ended; and then one
-- beside the other, up to the line feed
abbrev pub Stands : List (List ℕ) → Line → Bool → List ℕ → List Line → Type 0
Stands files at true [] [] = Unit {0}
Stands files at true [] (line ∷ lines) = ⊥
Stands files at false [] lines = ⊥
Stands files at true (b ∷ z) [] = ⊥
Stands files at true (b ∷ z) (line ∷ lines) =
    IsFurther at line × (IsAt (slice_index_or files line.file []) line.place b × Stands files (beside_in line) (b == 10) z lines)
Stands files at false (b ∷ z) lines = IsAt (slice_index_or files at.file []) at.place b × Stands files (beside_in at) (b == 10) z lines

-- where the first file begins
abbrev pub first_line : Line
first_line = record { file = 0; place = first_place }

-- each byte of the text of some files stands in C at its line's place plus its column, apart from blanks for the expressions of locks: it
-- is a text that stands there as it is, but for these
abbrev pub EachByteStands : Type 0
EachByteStands = (files : List (List ℕ)) (text : Text) → extracted files ≡ Ok text →
    (found : List ℕ) × ((text.bytes ≡ plain found) × Stands files first_line true found text.lines)

-- ---- no byte of an annotation is left out

-- what was read leads on, or nothing does
abbrev pub on : Result Scanner Fault → (Scanner → List PlacedByte) → List PlacedByte
on (Ok next) noted = noted next
on (Err f) noted = []

-- the `-` after a marker makes it another kind of comment
abbrev pub is_other : Mode → ℕ → Bool
is_other m.LineMarked b = b == 45
is_other m.BlockMarked b = b == 45
is_other _ b = false

-- a byte that is read of an annotation, after its marker
abbrev pub noted_by : Scanner → ℕ → List PlacedByte
noted_by s b = if is_note s.mode && not (is_other s.mode b) then record { byte = b; place = s.at } ∷ [] else []

-- the bytes that are read of annotations, of a continuation `left` bytes are left over
abbrev pub noted : ℕ → Scanner → List ℕ → List PlacedByte
noted left s [] = []
noted (suc left) s (b ∷ z) = noted left s z
noted zero s (b ∷ z) =
    let n = continuation (b ∷ z) in
    if n == 0 then noted_by s b ++ on (step s b) (λ next. noted zero next z) else on (join s n) (λ next. noted (n - 1) next z)

-- a byte of the `*/` that ends an annotation
abbrev pub IsClosing : List ℕ → PlacedByte → Type 0
IsClosing file p =
    ((p.byte ≡ 42) × (slice_index file (p.place.start + 1) ≡ 47))
    ⊎ ((p.byte ≡ 47) × ((before : ℕ) × ((before + 1 ≡ p.place.start) × (slice_index file before ≡ 42))))

-- a byte is in a text with its place
abbrev pub Has : List PlacedByte → PlacedByte → Type 0
Has [] p = ⊥
Has (first ∷ rest) p = (first ≡ p) ⊎ Has rest p

-- or of a `*/`
abbrev pub IsTaken : List ℕ → List PlacedByte → PlacedByte → Type 0
IsTaken file text p = Has text p ⊎ IsClosing file p

-- each byte that is read of an annotation is in the text, but a `*/`
abbrev pub NoByteIsLeftOut : Type 0
NoByteIsLeftOut = (file : List ℕ) (text : List PlacedByte) →
    annotations file ≡ Ok text → AllByRecursion (IsTaken file text) (noted zero start file)
