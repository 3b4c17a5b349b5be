-- The text of the annotations of several C files, in order. This project's own rule.
use Rattle.std.specs.Prelude.{ℕ, ◌+◌, List, [], ◌∷◌, length, nat_lt, ◌==◌, if◌then◌else◌, Result, Ok, Err}
use Rattle.flt_c.specs.declared.fault.Fault.{Fault}
use Rattle.flt_c.specs.declared.files.FileFlaw.{FileFlaw}
use Rattle.flt_c.specs.declared.files.Flaw.{Flaw}
use Rattle.flt_c.specs.declared.files.Flaw.TheVariants.{Faulty, Large, Bare, Long}
use Rattle.flt_c.specs.Scan.{annotations}
use Rattle.flt_c.specs.Texts.{Text, empty, after, plain_text}
use Rattle.flt_rules.specs.Limits.{max_text}

-- a flaw of the file of this number
abbrev pub flawed : ℕ → Flaw → Result Text FileFlaw
flawed file flaw = Err (record { file = file; flaw = flaw })

-- a text that one more file made out of another: the file has an annotation, and the text isn't longer than a filter's text may be
abbrev pub grown : ℕ → Text → Result Text Fault → Result Text FileFlaw
grown file before (Err f) = flawed file (Faulty f)
grown file before (Ok text) =
    if length text.bytes == length before.bytes then flawed file Bare
    else (if nat_lt max_text (length text.bytes) then flawed file Long else Ok text)

-- one file more, which is no larger than 16 MB
abbrev pub with_file : ℕ → Text → List ℕ → Result Text FileFlaw
with_file number text file =
    if nat_lt 16777216 (length file) then flawed number Large else grown number text (after number text (annotations file))

infixl 10 ◌>>=◌
-- what follows, unless there is a flaw
abbrev pub ◌>>=◌ : {A B : Type 0} → Result A FileFlaw → (A → Result B FileFlaw) → Result B FileFlaw
(Ok x) >>= f = f x
(Err e) >>= f = Err e

-- several files more, numbered from this one on
abbrev pub with_files : ℕ → Text → List (List ℕ) → Result Text FileFlaw
with_files number text [] = Ok text
with_files number text (file ∷ files) = with_file number text file >>= (λ more. with_files (number + 1) more files)

-- the annotations of some files, or the flaw of the first that has one
abbrev pub gathered : List (List ℕ) → Result Text FileFlaw
gathered files = with_files 0 empty files

-- annotations with blanks for the expressions of locks
abbrev pub without_expressions : Result Text FileFlaw → Result Text FileFlaw
without_expressions (Ok text) = Ok (plain_text text)
without_expressions (Err flaw) = Err flaw

-- the text of the annotations of some files, or the flaw of the first that has one
abbrev pub extracted : List (List ℕ) → Result Text FileFlaw
extracted files = without_expressions (gathered files)
