-- Where the certificate begins in an input that holds a text and its certificate. This project's own format.
use Rattle.std.specs.Prelude.{◌≡◌, ℕ, ◌-◌, Bool, true, false, ◌==◌, ◌<◌, ◌≤◌, ◌&&◌, ◌||◌}
use Rattle.std.specs.Prelude.{◌⊎◌, List, [], ◌∷◌, codes, take, drop, length, slice_index}
use Rattle.std.specs.Str.{bytes_eq}

-- a line begins at a place: at the start, and behind each line feed
abbrev pub begins_line : List ℕ → ℕ → Bool
begins_line bytes at = at == 0 || slice_index bytes (at - 1) == 10

-- nothing stands behind a line, or its line feed
abbrev pub ends_line : List ℕ → Bool
ends_line [] = true
ends_line (b ∷ bytes) = b == 10

-- the first line is exactly `fltcert 1` or `fltcert 2`
abbrev pub is_header : List ℕ → Bool
is_header bytes =
    (bytes_eq (take 9 bytes) (codes "fltcert 1") || bytes_eq (take 9 bytes) (codes "fltcert 2")) && ends_line (drop 9 bytes)

-- such a line begins at a place
abbrev pub is_header_at : List ℕ → ℕ → Bool
is_header_at bytes at = begins_line bytes at && is_header (drop at bytes)

-- the first such place; the end of the input where there is none
pub record IsCertificateStart (bytes : List ℕ) (start : ℕ) : Type 0 where
  pub within : start ≤ length bytes
  pub begins : (start ≡ length bytes) ⊎ (is_header_at bytes start ≡ true)
  pub earlier : (at : ℕ) → at < start → is_header_at bytes at ≡ false
