-- The first line of a source that `emit --into` writes. This project's own form; the digest is that of FIPS 180-4.
use Rattle.hex.specs.Hex.{encode_lower}
use Rattle.sha2.specs.Sha256.{sha256}
use Rattle.std.specs.Prelude.{◌≡◌, ◌⊎◌, ◌≤◌, ◌++◌, Some, None, codes, drop, length, take}
use Rattle.flt_files.specs.Inputs.{Giving, Text}

-- the line on a source: the digest of its bytes, in hexadecimal
unfoldable pub stamp : Text → Text
stamp source = codes "/* Written by fltstack, and replaced unless it is changed. SHA-256 of the rest: " ++ (encode_lower (sha256 source) ++ codes " */\n")

-- a source behind it
abbrev pub stamped : Text → Text
stamped source = stamp source ++ source

-- bytes begin with the line on all that stands behind as many of them as it has
pub record IsStamped (bytes : Text) : Type 0 where
  pub long : 148 ≤ length bytes
  pub line : take 148 bytes ≡ stamp (drop 148 bytes)

-- the file of a name is given, and is a source as it was written
pub record IsOwnSource (gives : Giving) (name bytes : Text) : Type 0 where
  pub given : gives name (Some bytes)
  pub own : IsStamped bytes

-- the file of a name isn't given, or is no source as it was written
abbrev pub IsOther : Giving → Text → Type 0
IsOther gives name = gives name None ⊎ ((bytes : Text) × gives name (Some bytes) × (IsStamped bytes → ⊥))
