-- Members of JSON objects, as tokens (RFC 8259).
use Rattle.std.specs.Prelude.{◌≡◌, ℕ, List, [], ◌∷◌, ◌++◌, flat_map, OnOk, Option, Some, None, Result}
use Rattle.std.specs.Borrow.{Bor}
use Rattle.std.specs.Fmt.{decimal}
use Rattle.std.specs.Str.Lossy.{utf8_lossy}
use Rattle.json.specs.Print.{print}
use Rattle.json.specs.Token.{Token, begin_array, begin_object, end_array, end_object, key, string, number, null}
use Rattle.json.specs.Written.{Written}

-- these tokens stand behind what was
pub record Added (old new : Written) (ts : List Token) : Type 0 where
  pub before : new.before ≡ old.before
  pub tokens : new.tokens ≡ old.tokens ++ ts

-- the same where memory doesn't run out
pub record Adds {E : Type 0} (r : Result (Unit {0}) E) (old new : Written) (ts : List Token) : Type 0 where
  pub ok : OnOk r (Added old new ts)

-- a member whose value is a text
abbrev pub string_member : List ℕ → List ℕ → List Token
string_member name text = key name ∷ string text ∷ []

-- the same of bytes; what isn't UTF-8 is U+FFFD
abbrev pub text_member : List ℕ → List ℕ → List Token
text_member name bytes = string_member name (utf8_lossy bytes)

abbrev pub number_member : List ℕ → ℕ → List Token
number_member name n = key name ∷ number (decimal n) ∷ []

abbrev pub null_member : List ℕ → List Token
null_member name = key name ∷ null ∷ []

-- null where there is no text
abbrev pub filled_member : List ℕ → List ℕ → List Token
filled_member name [] = null_member name
filled_member name (b ∷ bytes) = text_member name (b ∷ bytes)

-- the same of what may be missing
abbrev pub bytes_member : List ℕ → Option (Bor (List ℕ)) → List Token
bytes_member name None = null_member name
bytes_member name (Some bytes) = text_member name bytes.now

-- some texts, in order
abbrev pub text_items : List (List ℕ) → List Token
text_items = flat_map (λ bytes. string (utf8_lossy bytes) ∷ [])

-- a member whose value is an object with these members
abbrev pub object_member : List ℕ → List Token → List Token
object_member name members = key name ∷ begin_object ∷ (members ++ end_object ∷ [])

-- a member whose value is an array of these items
abbrev pub array_member : List ℕ → List Token → List Token
array_member name items = key name ∷ begin_array ∷ (items ++ end_array ∷ [])

-- some tokens on a line of their own
abbrev pub line_of : List Token → List ℕ
line_of tokens = print tokens ++ 10 ∷ []
