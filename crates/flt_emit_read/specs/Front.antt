-- Reading the front of a text: what is read of it, and what follows. This project's own.
use Rattle.std.specs.Prelude.{ℕ, ◌+◌, ◌-◌, ◌*◌, ◌^◌, ◌==◌, nat_lt, Bool, if◌then◌else◌, List, [], ◌∷◌, Option, Some, None}
use Rattle.std.specs.Char.{is_ascii_digit}
use Rattle.flt_tree.specs.Names.{Text, is_word, is_name}

-- what is read, and what follows it
abbrev pub Front : Type 0 → Type 0
Front A = Option (A × Text)

infixl 10 ◌>>=◌
abbrev pub ◌>>=◌ : {A B : Type 0} → Option A → (A → Option B) → Option B
None >>= f = None
(Some x) >>= f = f x

-- the first of two readings that reads something
abbrev pub or_else : {A B : Type 0} → Option A → (A → Option B) → Option B → Option B
or_else None f other = other
or_else (Some x) f other = f x

-- what follows the first text at the front of the second, if it stands there
abbrev pub after : Text → Text → Option Text
after [] z = Some z
after (a ∷ front) [] = None
after (a ∷ front) (b ∷ z) = if b == a then after front z else None

-- what a table has for the first of its texts that stands at the front
abbrev pub one_of : {A : Type 0} → List (Text × A) → Text → Front A
one_of [] z = None
one_of (x ∷ xs) z = or_else (after x.0 z) (λ rest. Some (x.1, rest)) (one_of xs z)

-- how the rest of a line is read, by its beginning
abbrev pub Forms : Type 0 → Type 0
Forms A = List (Text × (Text → Front A))

abbrev pub by_form : {A : Type 0} → Forms A → Text → Front A
by_form forms z = one_of forms z >>= λ q. q.0 q.1

-- the bytes at the front for which the test holds
abbrev pub front_while : (ℕ → Bool) → Text → Text
front_while test [] = []
front_while test (b ∷ z) = if test b then b ∷ front_while test z else []

-- what follows them
abbrev pub past_while : (ℕ → Bool) → Text → Text
past_while test [] = []
past_while test (b ∷ z) = if test b then past_while test z else b ∷ z

abbrev pub is_blank : ℕ → Bool
is_blank b = b == 32

abbrev pub past_blanks : Text → Text
past_blanks = past_while is_blank

-- a text of digits as a number of 64 bits, after the number of the digits before them
abbrev pub number_from : ℕ → Text → Option ℕ
number_from n [] = Some n
number_from n (d ∷ ds) = if nat_lt (10 * n + (d - 48)) (2 ^ 64) then number_from (10 * n + (d - 48)) ds else None

-- the same if there are digits
abbrev pub number_of : Text → Option ℕ
number_of [] = None
number_of (d ∷ ds) = number_from 0 (d ∷ ds)

unfoldable pub number_at : Text → Front ℕ
number_at z = number_of (front_while is_ascii_digit z) >>= λ n. Some (n, past_while is_ascii_digit z)

-- a name
unfoldable pub name_at : Text → Front Text
name_at z = if is_name (front_while is_word z) then Some (front_while is_word z, past_while is_word z) else None
