-- What `extract` says. This project's own program.
use Rattle.std.specs.Fmt.{decimal}
use Rattle.std.specs.Prelude.{◌≡◌, ℕ, ◌+◌, Bool, true, false, List, [], ◌∷◌, ◌++◌, codes, slice_index_or, Result, Ok, Err}
use Rattle.flt_c.specs.Files.{extracted}
use Rattle.flt_c.specs.Texts as c
use Rattle.flt_c.specs.declared.files.FileFlaw.{FileFlaw}
use Rattle.flt_c.specs.declared.files.Flaw.{Flaw}
use Rattle.flt_c.specs.declared.text.Line.{Line}
use Rattle.flt_files.specs.Flaws.{spot}
use Rattle.flt_files.specs.Inputs.{Text}
use Rattle.flt_commands_texts.specs.declared.answer.TextAnswer.{TextAnswer}
use Rattle.flt_commands_texts.specs.declared.answer.TextAnswer.TheVariants.{Extracted}
use Rattle.flt_files.specs.declared.failure.Failure.{Failure}
use Rattle.flt_files.specs.declared.failure.Failure.TheVariants.{Flawed, OutOfMemory}
use Rattle.flt_words.specs.Shown.{visible}

-- ---- where the lines of the text begin

-- where the line of this number begins
abbrev pub map_line : Text → Line → ℕ → List ℕ
map_line name line number = name ++ (codes ":" ++ (spot line.place ++ (codes ": line " ++ (decimal number ++ codes "\n"))))

-- where each line begins, from this number on
abbrev pub map_from : List Text → ℕ → List Line → List ℕ
map_from names number [] = []
map_from names number (line ∷ lines) =
    map_line (visible (slice_index_or names line.file [])) line number ++ map_from names (number + 1) lines

-- ---- what is said

-- what is printed of a text: itself, or where its lines begin
abbrev pub printed : Bool → List Text → c.Text → List ℕ
printed true names text = map_from names 1 text.lines
printed false names text = text.bytes

-- this is printed of the files, which have a text
abbrev pub IsPrinted : Bool → List Text → Result c.Text FileFlaw → List ℕ → Type 0
IsPrinted of_map names (Ok text) bytes = bytes ≡ printed of_map names text
IsPrinted of_map names (Err f) bytes = ⊥

-- the files have no text because of this flaw of the file of this name
abbrev pub AreFlawed : List Text → Result c.Text FileFlaw → Text → Flaw → Type 0
AreFlawed names (Ok text) name flaw = ⊥
AreFlawed names (Err f) name flaw = (name ≡ slice_index_or names f.file []) × (flaw ≡ f.flaw)

-- what is said where the files have this text, or none; memory may run out
abbrev pub ComesTo : Bool → List Text → Result c.Text FileFlaw → Result TextAnswer Failure → Type 0
ComesTo of_map names found (Ok (Extracted bytes)) = IsPrinted of_map names found bytes.items
ComesTo of_map names found (Ok _) = ⊥
ComesTo of_map names found (Err (Flawed name flaw)) = AreFlawed names found name.now flaw
ComesTo of_map names found (Err OutOfMemory) = Unit {0}
ComesTo of_map names found (Err _) = ⊥

-- what is said of the bytes of each FILE, of these names
abbrev pub IsExtracted : Bool → List Text → List Text → Result TextAnswer Failure → Type 0
IsExtracted of_map names texts result = ComesTo of_map names (extracted texts) result
