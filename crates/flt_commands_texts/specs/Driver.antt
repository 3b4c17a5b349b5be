-- The files of a driver in a folder: their names, what is done to them, and the lines about them. This project's own program.
use Rattle.std.specs.Char.{is_ascii_graphic}
use Rattle.std.specs.List.{All}
use Rattle.std.specs.Prelude.{◌≡◌, ℕ, Bool, true, false, ◌++◌, List, [], ◌∷◌, codes, if◌then◌else◌, map, string_bytes}
use Rattle.flt_words.specs.Shown.{visible}
use Rattle.flt_files.specs.Attempts.{Attempt, Failed, Grows, IsDone, Left, Made, Wrote, made}
use Rattle.flt_files.specs.Deeds.{Deed}
use Rattle.flt_files.specs.Inputs.{Giving, Text}
use Rattle.flt_files.specs.Unwritten.{unwritten_line}
use Rattle.flt_commands_texts.specs.declared.driver.DriverNames.{DriverNames}
use Rattle.flt_commands_texts.specs.declared.driver.DriverOutcome.{DriverOutcome}
use Rattle.flt_commands_texts.specs.declared.driver.DriverOutcome.TheVariants.{Kept, NoSource, Written}
use Rattle.flt_commands_texts.specs.declared.driver.RestOutcome.{RestOutcome}
use Rattle.flt_commands_texts.specs.declared.driver.RestOutcome.TheVariants.{Whole, NoHeader, NoInstallation}
use Rattle.flt_commands_texts.specs.declared.driver.SourcePlace.{SourcePlace}
use Rattle.flt_commands_texts.specs.declared.driver.SourcePlace.TheVariants.{Free, Own, Forced}
use Rattle.flt_commands_texts.specs.Stamp.{IsOther, IsOwnSource}

-- ---- the names of files

-- a byte of a filter's name; there are only letters, digits and `_`
abbrev pub letter : ℕ → ℕ
letter b = if is_ascii_graphic b then b else 63

-- a file of a filter of a name in a folder
abbrev pub file_name : Text → Text → Text → Text
file_name folder name ending = folder ++ (codes "/" ++ (map letter name ++ ending))

-- these are the names of the files of a filter of a name in a folder
pub record AreNamed (folder name : Text) (names : DriverNames) : Type 0 where
  pub source : string_bytes names.source ≡ file_name folder name (codes ".c")
  pub header : string_bytes names.header ≡ file_name folder name (codes "_user.h")
  pub installation : string_bytes names.installation ≡ file_name folder name (codes ".inf")

-- ---- what is done to them

-- what was done first where a source took the place of one that was there
abbrev pub before : SourcePlace → Text → List Attempt
before Own name = Left name ∷ []
before _ name = []

-- the source got its bytes
abbrev pub got : SourcePlace → Text → Text → Attempt
got Free name bytes = Made name bytes
got _ name bytes = Wrote name bytes

-- what was done behind the source: the user's header is made unless it is there, then the INF file is; the first that fails is the last
abbrev pub rest_of : DriverNames → Text → Text → RestOutcome → List Attempt
rest_of names header installation (NoHeader why) = Failed (string_bytes names.header) ∷ []
rest_of names header installation (NoInstallation is_new why) =
    made is_new (string_bytes names.header) header ∷ Failed (string_bytes names.installation) ∷ []
rest_of names header installation (Whole is_new is_new_too) =
    made is_new (string_bytes names.header) header ∷ made is_new_too (string_bytes names.installation) installation ∷ []

-- what was done where a driver has these parts: its source is made unless something is there, which is as it was or is replaced; where it
-- has its bytes, the others are made
abbrev pub attempts_of : DriverNames → Text → Text → Text → DriverOutcome → List Attempt
attempts_of names source header installation (Kept why) = Left (string_bytes names.source) ∷ []
attempts_of names source header installation (NoSource place why) =
    before place (string_bytes names.source) ++ Failed (string_bytes names.source) ∷ []
attempts_of names source header installation (Written place rest) =
    before place (string_bytes names.source) ++ got place (string_bytes names.source) source ∷ rest_of names header installation rest

-- these attempts were made since, and no others, and what got its bytes has them
pub record AreDone (written : Text → Text → Type 0) (old new : List Deed) (attempts : List Attempt) : Type 0 where
  pub done : All (IsDone written) attempts
  pub only : Grows old new attempts

-- what was known of the name of a source before it was written: that it was free, that a source as it was written was there, or nothing,
-- since it is to be replaced whatever is there
abbrev pub IsPlace : Giving → Bool → Text → SourcePlace → Type 0
IsPlace gives is_forced name Free = is_forced ≡ false
IsPlace gives is_forced name Own = (is_forced ≡ false) × ((bytes : Text) × IsOwnSource gives name bytes)
IsPlace gives is_forced name Forced = is_forced ≡ true

-- what was known of the name of its source was this
abbrev pub HasPlace : SourcePlace → DriverOutcome → Type 0
HasPlace place (Kept why) = ⊥
HasPlace place (NoSource other why) = other ≡ place
HasPlace place (Written other rest) = other ≡ place

-- the same of a driver; its source is left alone only where it is no source as it was written
abbrev pub IsAskedFor : Giving → Bool → Text → DriverOutcome → Type 0
IsAskedFor gives is_forced name (Kept why) = (is_forced ≡ false) × IsOther gives name
IsAskedFor gives is_forced name (NoSource place why) = IsPlace gives is_forced name place
IsAskedFor gives is_forced name (Written place rest) = IsPlace gives is_forced name place

-- ---- what is said

-- 0 where all parts are there, else 2
abbrev pub driver_status : DriverOutcome → ℕ
driver_status (Written place (Whole is_new is_new_too)) = 0
driver_status _ = 2

-- that a file is written, or is as it was
abbrev pub written_line : Text → Text
written_line name = visible name ++ codes " is written\n"

abbrev pub left_line : Text → Text
left_line name = visible name ++ codes " is as it was\n"

-- what became of a file that is made unless it is there
abbrev pub made_line : Bool → Text → Text
made_line is_new name = if is_new then written_line name else left_line name

-- the same where that is said only of one that is as it was
abbrev pub kept_line : Bool → Text → Text
kept_line is_new name = if is_new then [] else left_line name

-- the lines on the parts behind a source that is written
abbrev pub rest_lines : DriverNames → RestOutcome → Text
rest_lines names (Whole is_new is_new_too) =
    kept_line is_new (string_bytes names.header) ++ kept_line is_new_too (string_bytes names.installation)
rest_lines names (NoHeader why) = written_line (string_bytes names.source) ++ (why.items ++ unwritten_line (string_bytes names.header))
rest_lines names (NoInstallation is_new why) =
    written_line (string_bytes names.source)
    ++ (made_line is_new (string_bytes names.header) ++ (why.items ++ unwritten_line (string_bytes names.installation)))

-- what is on the standard error: which parts are as they were; where one isn't written, what became of those before it, why, and which
abbrev pub driver_lines : DriverNames → DriverOutcome → Text
driver_lines names (Kept why) = why.items ++ unwritten_line (string_bytes names.source)
driver_lines names (NoSource place why) = why.items ++ unwritten_line (string_bytes names.source)
driver_lines names (Written place rest) = rest_lines names rest
