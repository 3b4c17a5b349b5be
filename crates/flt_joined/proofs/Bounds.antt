-- A flaw of the text of some files is that of one of them.
use Rattle.std.proofs.Common.{◌≡◌, ◌<◌, ◌≤◌, ℕ, suc, ◌+◌, Bool, true, false, List, [], ◌∷◌, ◌++◌, Option}
use Rattle.std.proofs.Common.{Some, None, Result, Ok, Err, arith, flat_map, if◌then◌else◌, length, refl}
use Rattle.std.specs.Prelude.{◌==◌, nat_lt}
use Rattle.std.proofs.Math.Path.{subst}
use Rattle.flt_c.specs.Files.{◌>>=◌, extracted, flawed, gathered, grown, with_file, with_files, without_expressions}
use Rattle.flt_c.specs.Scan.{annotations}
use Rattle.flt_c.specs.Texts as c
use Rattle.flt_c.specs.declared.fault.Fault.{Fault}
use Rattle.flt_c.specs.declared.files.FileFlaw.{FileFlaw}
use Rattle.flt_c.specs.declared.files.Flaw.{Flaw}
use Rattle.flt_c.specs.declared.files.Flaw.TheVariants.{Bare, Large, Long}
use Rattle.flt_joined.specs.Texts.{Given, Text, code_by, own_code, text_by, text_of}
use Rattle.flt_rules.specs.Limits.{max_text}

-- the number of the file that has a flaw, or this one
abbrev file_by : Result c.Text FileFlaw → ℕ → ℕ
file_by (Ok text) number = number
file_by (Err e) number = e.file

-- a flaw, if there is one, is of a file below this number
abbrev pub Below : Result c.Text FileFlaw → ℕ → Type 0
Below (Ok text) n = Unit {0}
Below (Err e) n = e.file < n

chosen : (test : Bool) (flaw : Flaw) (y : Result c.Text FileFlaw) (number : ℕ) → file_by y number ≡ number →
    file_by (if test then flawed number flaw else y) number ≡ number
chosen true flaw y number right = refl
chosen false flaw y number right = right

grown_here : (number : ℕ) (before : c.Text) (r : Result c.Text Fault) → file_by (grown number before r) number ≡ number
grown_here number before (Err f) = refl
grown_here number before (Ok text) =
    chosen (length text.bytes == length before.bytes) Bare _ number
    (chosen (nat_lt max_text (length text.bytes)) Long (Ok text) number refl)

-- a flaw of a file has its number
file_here : (number : ℕ) (text : c.Text) (file : Text) → file_by (with_file number text file) number ≡ number
file_here number text file =
    chosen (nat_lt 16777216 (length file)) Large _ number (grown_here number text (c.after number text (annotations file)))

next_below : (number : ℕ) (files : List Text) (r : Result c.Text FileFlaw) → file_by r number ≡ number →
    ((more : c.Text) → Below (with_files (number + 1) more files) (number + 1 + length files)) →
    Below (r >>= (λ more. with_files (number + 1) more files)) (number + suc (length files))
next_below number files (Ok more) same rest =
    let bound : number + 1 + length files ≡ number + suc (length files) = omega arith in
    subst (Below (with_files (number + 1) more files)) bound (rest more)
next_below number files (Err e) same rest = omega (arith, same)

files_below : (files : List Text) (number : ℕ) (text : c.Text) → Below (with_files number text files) (number + length files)
files_below [] number text = tt
files_below (file ∷ files) number text =
    next_below number files (with_file number text file) (file_here number text file) (λ more. files_below files (number + 1) more)

plain_below : (r : Result c.Text FileFlaw) (n : ℕ) → Below r n → Below (without_expressions r) n
plain_below (Ok text) n below = tt
plain_below (Err e) n below = below

extracted_below : (files : List Text) → Below (extracted files) (length files)
extracted_below files =
    let all : 0 + length files ≡ length files = omega arith in
    plain_below (gathered files) (length files) (subst (Below (gathered files)) all (files_below files 0 c.empty))

wider : (r : Result c.Text FileFlaw) (n m : ℕ) → n ≤ m → Below r n → Below r m
wider (Ok text) n m more below = tt
wider (Err e) n m more below = omega (arith, more, below)

-- there are no more C files than files
few_by : (code : Option Text) (others : List Text) → length (code_by code ++ others) ≤ suc (length others)
few_by None others = omega arith
few_by (Some code) others = omega arith

few : (files : List Given) → length (flat_map own_code files) ≤ length files
few [] = omega arith
few (g ∷ files) = omega (arith, few_by g.code (flat_map own_code files), few files)

text_below_by : (code : Option Text) (text : Text) (files : List Given) → Below (text_by code text files) (suc (length files))
text_below_by None text files = tt
text_below_by (Some code) text files =
    wider _ (suc (length (flat_map own_code files))) _ (omega (arith, few files)) (extracted_below (code ∷ flat_map own_code files))

-- a flaw of the text of some files is of one of them
pub text_below : (files : List Given) → Below (text_of files) (length files)
text_below [] = tt
text_below (g ∷ files) = text_below_by g.code g.text files

pub flaw_below : (files : List Given) (flaw : FileFlaw) → text_of files ≡ Err flaw → flaw.file < length files
flaw_below files flaw is = subst (λ r. Below r (length files)) is (text_below files)
