-- The name of a header in a line of `#include`. The C standard's header names, which this project reads between quotes and angles alone.
use Rattle.std.specs.Prelude.{ℕ, ◌+◌, ◌-◌, Bool, true, false, ◌&&◌, if◌then◌else◌, ◌==◌, nat_le, List, [], ◌∷◌, codes, length}
use Rattle.std.specs.Prelude.{Option, Some, None, slice_get, slice_range}
use Rattle.std.specs.Str.{bytes_eq}
use Rattle.flt_c_tokens.specs.Bytes.{Text, byte_at}
use Rattle.flt_c_tokens.specs.declared.token.Kind.{Kind}
use Rattle.flt_c_tokens.specs.declared.token.Kind.TheVariants as k
use Rattle.flt_c_tokens.specs.declared.token.Token.{Token}
use Rattle.flt_c_headers.specs.declared.inclusion.HeaderName.{HeaderName}

-- the kinds of token that a line of `#include` has
abbrev pub is_name : Kind → Bool
is_name k.Name = true
is_name kind = false

abbrev pub is_text : Kind → Bool
is_text k.Text = true
is_text kind = false

abbrev pub is_less : Kind → Bool
is_less k.Less = true
is_less kind = false

abbrev pub is_greater : Kind → Bool
is_greater k.Greater = true
is_greater kind = false

-- the text of a word by its number
abbrev pub text_or_none : Option Text → Text
text_or_none None = []
text_or_none (Some w) = w

abbrev pub text_at : List Text → ℕ → Text
text_at texts n = text_or_none (slice_get texts n)

-- a name with whether it is in quotes; an empty one is none
abbrev pub named : Bool → Text → Option (Bool × Text)
named in_quotes [] = None
named in_quotes (b ∷ z) = Some (in_quotes, b ∷ z)

-- what is between the quotes of a string without a prefix
abbrev pub is_quoted : Text → Bool
is_quoted w = nat_le 2 (length w) && byte_at w 0 == 34 && byte_at w (length w - 1) == 34

unfoldable pub in_quotes : Text → Option (Bool × Text)
in_quotes w = if is_quoted w then named true (slice_range w 1 (length w - 1)) else None

-- where the first `>` of some tokens begins
abbrev pub first_greater : List Token → Option ℕ
first_greater [] = None
first_greater (t ∷ ts) = if is_greater t.kind then Some t.start else first_greater ts

-- what is between two places of a file
abbrev pub between : Text → ℕ → Option ℕ → Option (Bool × Text)
between file first None = None
between file first (Some last) =
    if nat_le first last && nat_le last (length file) then named false (slice_range file first last) else None

-- what is behind the `<` that begins here, up to the first `>` of these tokens
unfoldable pub in_angles : Text → ℕ → List Token → Option (Bool × Text)
in_angles file start after = between file (start + 1) (first_greater after)

-- a name that begins with this token
unfoldable pub named_by : List Text → Text → Token → List Token → Option (Bool × Text)
named_by texts file t after =
    if is_text t.kind then in_quotes (text_at texts t.word)
    else (if is_less t.kind then in_angles file t.start after else None)

-- the word behind the `#`
unfoldable pub is_include : List Text → Token → Bool
is_include texts t = is_name t.kind && bytes_eq (text_at texts t.word) (codes "include")

-- The name that a line includes, and whether it is in quotes: of the texts of words, the bytes of the file, and the line's tokens behind
-- its `#`. What follows the name in its line doesn't count.
unfoldable pub inclusion : List Text → Text → List Token → Option (Bool × Text)
inclusion texts file [] = None
inclusion texts file (word ∷ []) = None
inclusion texts file (word ∷ (t ∷ after)) = if is_include texts word then named_by texts file t after else None

-- the same of what the program keeps
abbrev pub seen : HeaderName → Bool × Text
seen i = (i.in_quotes, i.name.now)
