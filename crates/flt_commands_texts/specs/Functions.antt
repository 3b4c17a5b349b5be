-- What `draft --functions` says. This project's own program.
use Rattle.std.specs.Borrow.{Bor}
use Rattle.std.specs.Prelude.{◌≡◌, ℕ, List, [], slice_index_or, Result, Ok, Err}
use Rattle.flt_c.specs.declared.files.Flaw.TheVariants.{Large}
use Rattle.flt_c_functions.specs.Listing.{IsListing, IsRefused}
use Rattle.flt_c_tokens.specs.declared.lexer.Excess.{Excess}
use Rattle.flt_c_tokens.specs.declared.lexer.Excess.TheVariants.{LargeFile, TooManySpellings}
use Rattle.flt_commands_texts.specs.declared.answer.TextAnswer.{TextAnswer}
use Rattle.flt_commands_texts.specs.declared.answer.TextAnswer.TheVariants.{Listed}
use Rattle.flt_files.specs.Inputs.{Giving, Text}
use Rattle.flt_files.specs.declared.failure.Failure.{Failure}
use Rattle.flt_files.specs.declared.failure.Failure.TheVariants.{Flawed, TooManyWords, OutOfMemory}

-- how it is reported that the file of a name isn't read
abbrev pub stopped : Bor Text → Excess → Failure
stopped name LargeFile = Flawed name Large
stopped name (TooManySpellings line column) = TooManyWords name line column

-- the file of this name is the first that isn't read behind these lines, for this reason
pub record StopsAt (gives : Giving) (folders lines names files : List Text) (name : Text) (excess : Excess) : Type 0 where
  pub number : ℕ
  pub first : IsRefused gives folders lines names files number excess
  pub named : name ≡ slice_index_or names number []

-- what is said of the bytes of each FILE, of these names, behind some lines of directives, with the headers that are given in some folders:
-- the listing, or the first FILE that isn't read; memory may run out
abbrev pub AreListed : Giving → List Text → List Text → List Text → List Text → Result TextAnswer Failure → Type 0
AreListed gives folders lines names files (Ok (Listed found)) = IsListing gives folders lines names files found
AreListed gives folders lines names files (Ok _) = ⊥
AreListed gives folders lines names files (Err (Flawed name Large)) = StopsAt gives folders lines names files name.now LargeFile
AreListed gives folders lines names files (Err (TooManyWords name line column)) =
    StopsAt gives folders lines names files name.now (TooManySpellings line column)
AreListed gives folders lines names files (Err OutOfMemory) = Unit {0}
AreListed gives folders lines names files (Err _) = ⊥
