-- The digits of a number, with what comes after them.
use Rattle.std.proofs.Common.{◌≡◌, ◌<◌, ◌≤◌, ◌+◌, ◌/◌, ◌%◌, ◌^◌, ℕ, [], ◌∷◌, ◌++◌, ap, sym, subst, ◌∙◌, append_assoc, arith}
use Rattle.std.proofs.KnownBytes.{Appends-trans}
use Rattle.std.proofs.lemmas.Fmt.{decimal_digit, decimal_step}
use Rattle.std.specs.Fmt.{decimal}
use Rattle.std.specs.Io.KnownBytes.{Appends}
use Rattle.std.specs.Prelude.{Option, Result, Ok, Err, OnOk}
use Rattle.flt_model.specs.Streams.{Text}

-- the only digit
digit_alone : (n a : ℕ) (rest : Text) → n < 10 → a ≡ 48 + n % 10 → a ∷ rest ≡ decimal n ++ rest
digit_alone n a rest small e =
    let same : a ≡ 48 + n = omega arith in
    ap (λ d. d ∷ rest) same ∙ ap (λ ds. ds ++ rest) (sym (decimal_digit n small))

-- the last digit of several
digit_behind : (n a : ℕ) (rest : Text) → 10 ≤ n → n < 2 ^ 32 → a ≡ 48 + n % 10 → decimal (n / 10) ++ a ∷ rest ≡ decimal n ++ rest
digit_behind n a rest large small e =
    ap (λ d. decimal (n / 10) ++ d ∷ rest) e
    ∙ (sym (append_assoc (decimal (n / 10)) ((48 + n % 10) ∷ []) rest)
    ∙ ap (λ ds. ds ++ rest) (sym (decimal_step n large (omega arith))))

pub one_digit : (n a end : ℕ) → n / 10 ≡ 0 → a ≡ 48 + n % 10 → a ∷ end ∷ [] ≡ decimal n ++ end ∷ []
one_digit n a end short e = digit_alone n a (end ∷ []) (omega arith) e

pub two_digits : (n a b end : ℕ) → n < 2 ^ 32 → 0 < n / 10 → n / 10 / 10 ≡ 0 → a ≡ 48 + n % 10 → b ≡ 48 + n / 10 % 10 →
    b ∷ a ∷ end ∷ [] ≡ decimal n ++ end ∷ []
two_digits n a b end small long short e f =
    digit_alone (n / 10) b (a ∷ end ∷ []) (omega arith) f ∙ digit_behind n a (end ∷ []) (omega arith) small e

pub three_digits : (n a b d end : ℕ) → n < 2 ^ 32 → 0 < n / 10 / 10 → n / 10 / 10 / 10 ≡ 0 → a ≡ 48 + n % 10 → b ≡ 48 + n / 10 % 10 →
    d ≡ 48 + n / 10 / 10 % 10 → d ∷ b ∷ a ∷ end ∷ [] ≡ decimal n ++ end ∷ []
three_digits n a b d end small long short e f g =
    let tens = n / 10 in
    digit_alone (tens / 10) d (b ∷ a ∷ end ∷ []) (omega arith) g
    ∙ (digit_behind tens b (a ∷ end ∷ []) (omega arith) (omega arith) f ∙ digit_behind n a (end ∷ []) (omega arith) small e)

-- four digits at the end, and others before them
four_behind : (n a b d f end : ℕ) → n < 2 ^ 32 → 0 < n / 10 / 10 / 10 → a ≡ 48 + n % 10 → b ≡ 48 + n / 10 % 10 →
    d ≡ 48 + n / 10 / 10 % 10 → f ≡ 48 + n / 10 / 10 / 10 % 10 → (front : Text) →
    front ≡ decimal (n / 10 / 10 / 10) ++ d ∷ b ∷ a ∷ end ∷ [] → front ≡ decimal n ++ end ∷ []
four_behind n a b d f end small long e g h i front at =
    let tens = n / 10 in
    let hundreds = tens / 10 in
    at ∙ (digit_behind hundreds d (b ∷ a ∷ end ∷ []) (omega arith) (omega arith) h
    ∙ (digit_behind tens b (a ∷ end ∷ []) (omega arith) (omega arith) g ∙ digit_behind n a (end ∷ []) (omega arith) small e))

pub four_digits : (n a b d f end : ℕ) → n < 2 ^ 32 → 0 < n / 10 / 10 / 10 → n / 10 / 10 / 10 / 10 ≡ 0 → a ≡ 48 + n % 10 →
    b ≡ 48 + n / 10 % 10 → d ≡ 48 + n / 10 / 10 % 10 → f ≡ 48 + n / 10 / 10 / 10 % 10 →
    f ∷ d ∷ b ∷ a ∷ end ∷ [] ≡ decimal n ++ end ∷ []
four_digits n a b d f end small long short e g h i =
    four_behind n a b d f end small long e g h i (f ∷ d ∷ b ∷ a ∷ end ∷ [])
    (digit_alone (n / 10 / 10 / 10) f (d ∷ b ∷ a ∷ end ∷ []) (omega arith) i)

pub five_digits : (n a b d f q end : ℕ) → n < 2 ^ 32 → 0 < n / 10 / 10 / 10 / 10 → n / 10 / 10 / 10 / 10 < 10 → a ≡ 48 + n % 10 →
    b ≡ 48 + n / 10 % 10 → d ≡ 48 + n / 10 / 10 % 10 → f ≡ 48 + n / 10 / 10 / 10 % 10 → q ≡ 48 + n / 10 / 10 / 10 / 10 % 10 →
    q ∷ f ∷ d ∷ b ∷ a ∷ end ∷ [] ≡ decimal n ++ end ∷ []
five_digits n a b d f q end small long short e g h i j =
    let thousands = n / 10 / 10 / 10 in
    four_behind n a b d f end small (omega arith) e g h i (q ∷ f ∷ d ∷ b ∷ a ∷ end ∷ [])
    (digit_alone (thousands / 10) q (f ∷ d ∷ b ∷ a ∷ end ∷ []) short j
    ∙ digit_behind thousands f (d ∷ b ∷ a ∷ end ∷ []) (omega arith) (omega arith) i)

pub more_digits : (n a b d f q end : ℕ) → n < 2 ^ 32 → 10 ≤ n / 10 / 10 / 10 / 10 → a ≡ 48 + n % 10 →
    b ≡ 48 + n / 10 % 10 → d ≡ 48 + n / 10 / 10 % 10 → f ≡ 48 + n / 10 / 10 / 10 % 10 → q ≡ 48 + n / 10 / 10 / 10 / 10 % 10 →
    decimal (n / 10 / 10 / 10 / 10 / 10) ++ q ∷ f ∷ d ∷ b ∷ a ∷ end ∷ [] ≡ decimal n ++ end ∷ []
more_digits n a b d f q end small long e g h i j =
    let thousands = n / 10 / 10 / 10 in
    let others = thousands / 10 in
    four_behind n a b d f end small (omega arith) e g h i (decimal (others / 10) ++ q ∷ f ∷ d ∷ b ∷ a ∷ end ∷ [])
    (digit_behind others q (f ∷ d ∷ b ∷ a ∷ end ∷ []) long (omega arith) j
    ∙ digit_behind thousands f (d ∷ b ∷ a ∷ end ∷ []) (omega arith) (omega arith) i)

-- what is written of a number, and a byte after it
pub number_written : {X E : Type 0} (result : Result X E) (old new : Option Text) (bytes number : Text) → bytes ≡ number →
    OnOk result (Appends old new bytes) → OnOk result (Appends old new number)
number_written result old new bytes number e written = subst (λ (it : Text). OnOk result (Appends old new it)) e written

-- the same after its first digits
pub rest_written : {X E : Type 0} (result : Result X E) (old between new : Option Text) (front bytes number : Text) →
    front ++ bytes ≡ number → Appends old between front → OnOk result (Appends between new bytes) → OnOk result (Appends old new number)
rest_written (Ok x) old between new front bytes number e first written =
    subst (Appends old new) e (Appends-trans old between new front bytes first written)
rest_written (Err x) old between new front bytes number e first written = tt
