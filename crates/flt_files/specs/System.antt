-- What a system gives under a name, and what it keeps there. This project's own program.
use Rattle.std.specs.Fmt.{decimal}
use Rattle.std.specs.Prelude.{◌≡◌, ◌≢◌, ◌<◌, ◌++◌, ⊤, ℕ, Option, Some, None, codes, length}
use Rattle.std.specs.Io.KnownBytes.{Appends}
use Rattle.flt_files.specs.Inputs.{Giving, Text, kept}

-- what a reader has left that is opened under a name, where that is known; or what a writer holds that is made under it
abbrev pub Holding : Type 1
Holding = Text → Option Text → Type 0

-- of the bytes of its files a system says nothing
abbrev pub Unknown : Holding
Unknown name known = known ≡ None

-- nor does it say which files it has or lacks
abbrev pub Unsaid : Text → Type 0
Unsaid name = ⊤

-- nor what stands where
abbrev pub Unseen : Text → Text → Type 0
Unseen made name = ⊤

-- all that a reader had left, where that is known
abbrev pub AreAll : Option Text → Text → Type 0
AreAll None bytes = ⊤
AreAll (Some known) bytes = known ≡ bytes

-- what is kept of all that a reader had left, where that is known
abbrev pub AreKept : Option Text → Text → Type 0
AreKept None bytes = bytes ≡ kept bytes
AreKept (Some known) bytes = bytes ≡ kept known

-- a reader was opened under this name, and these are all the bytes that it had
pub record IsHeld (holds : Holding) (name bytes : Text) : Type 0 where
  pub known : Option Text
  pub opened : holds name known
  pub all : AreAll known bytes

-- more bytes than an input may have, where that is known
abbrev pub IsTooLong : Option Text → Type 0
IsTooLong None = ⊤
IsTooLong (Some known) = 67108864 < length known

-- some reader of this kind has failed
abbrev pub CanFail : {R : Type 0} → (R → ℕ) → Type 0
CanFail {R} failures = (ended : R) × (failures ended ≢ 0)

-- nothing is given for a name: nothing can be opened under it, or a read failed, or there is too much
pub data IsLost (holds : Holding) (lacks : Text → Type 0) (fails : Type 0) (name : Text) : Type 0 where
  missing : lacks name → IsLost holds lacks fails name
  failed : fails → IsLost holds lacks fails name
  too_long : (known : Option Text) → holds name known → IsTooLong known → IsLost holds lacks fails name

-- what is given for a name: all the bytes that a reader had which was opened under it, or nothing
abbrev pub IsGiven : Holding → (Text → Type 0) → Type 0 → Text → Option Text → Type 0
IsGiven holds lacks fails name (Some bytes) = IsHeld holds name bytes
IsGiven holds lacks fails name None = IsLost holds lacks fails name

-- a writer was made under this name, and took these bytes and no others
pub record IsFilled (makes : Holding) (name bytes : Text) : Type 0 where
  pub begun : Option Text
  pub made : makes name begun
  pub ended : Option Text
  pub grown : Appends begun ended bytes

-- the name of a new file beside that of another name, of a number
abbrev pub part_name : Text → ℕ → Text
part_name name number = name ++ (codes ".part" ++ decimal number)

-- these bytes are written under a name: all of them into what stands there, or into a new file, which then took the place of what stood
-- there
pub data IsWritten (makes : Holding) (puts : Text → Text → Type 0) (name bytes : Text) : Type 0 where
  poured : IsFilled makes name bytes → IsWritten makes puts name bytes
  replaced : (number : ℕ) → IsFilled makes (part_name name number) bytes → puts (part_name name number) name →
      IsWritten makes puts name bytes

-- ---- the system that the program runs on

-- what is given there for a name: the bytes of some reader, or nothing
abbrev pub given_by_host : Giving
given_by_host = IsGiven Unknown Unsaid ⊤

-- what is written there under a name: these bytes, by some writer, maybe under another name first
abbrev pub written_by_host : Text → Text → Type 0
written_by_host = IsWritten Unknown Unseen
