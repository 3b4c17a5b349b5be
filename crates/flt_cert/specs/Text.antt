-- Lines, and the numbers that stand in them.
use Rattle.std.specs.Prelude.{ℕ, ◌+◌, ◌-◌, ◌*◌, ◌/◌, ◌%◌, ◌&&◌, ◌==◌, nat_lt, if◌then◌else◌, List, [], ◌∷◌, Option, Some, None}

abbrev pub Text : Type 0
Text = List ℕ

-- the byte before the first line of the others
abbrev pub begun_by : ℕ → List Text → List Text
begun_by b [] = (b ∷ []) ∷ []
begun_by b (line ∷ lines) = (b ∷ line) ∷ lines

-- the lines of a text, each with its LF; the last has none where the text doesn't end with one
abbrev pub lines_of : Text → List Text
lines_of [] = []
lines_of (b ∷ text) = if b == 10 then (10 ∷ []) ∷ lines_of text else begun_by b (lines_of text)

-- a number below a thousand, in decimal
abbrev pub decimal : ℕ → Text
decimal n =
    if nat_lt n 10 then (48 + n) ∷ []
    else (if nat_lt n 100 then (48 + n / 10) ∷ (48 + n % 10) ∷ [] else (48 + n / 100) ∷ (48 + n / 10 % 10) ∷ (48 + n % 10) ∷ [])

-- what follows the first text at the front of the second, if it stands there
abbrev pub after : Text → Text → Option Text
after [] text = Some text
after (a ∷ front) [] = None
after (a ∷ front) (b ∷ text) = if b == a then after front text else None

-- the digit of a byte
abbrev pub digit_of : ℕ → Option ℕ
digit_of b = if nat_lt 47 b && nat_lt b 58 then Some (b - 48) else None

-- a digit that may stand first
abbrev pub leading : ℕ → Option ℕ
leading b = if nat_lt 48 b && nat_lt b 58 then Some (b - 48) else None

infixl 10 ◌>>=◌
abbrev pub ◌>>=◌ : {A B : Type 0} → Option A → (A → Option B) → Option B
None >>= f = None
(Some x) >>= f = f x

-- a number from 1 to 512 and LF
abbrev pub count_of : Text → Option ℕ
count_of [] = None
count_of (a ∷ []) = None
count_of (a ∷ z ∷ []) = if z == 10 then leading a else None
count_of (a ∷ b ∷ z ∷ []) = if z == 10 then (leading a >>= λ m. digit_of b >>= λ n. Some (10 * m + n)) else None
count_of (a ∷ b ∷ c ∷ z ∷ []) =
    if z == 10 then (leading a >>= λ l. digit_of b >>= λ m. digit_of c
    >>= λ n. (if nat_lt (100 * l + 10 * m + n) 513 then Some (100 * l + 10 * m + n) else None))
    else None
count_of (a ∷ b ∷ c ∷ d ∷ e ∷ text) = None
