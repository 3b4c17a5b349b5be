-- Numbers in decimal, read and written.
use Rattle.std.proofs.Common.{◌≡◌, ◌<◌, ◌≤◌, ◌+◌, ◌-◌, ◌*◌, ◌/◌, ◌%◌, ◌^◌, ℕ, zero, suc, Bool, true, false, List}
use Rattle.std.proofs.Common.{[], ◌∷◌, ◌++◌, length, refl, sym, ap, subst, arith, ◌∙◌, append_assoc, length-append}
use Rattle.std.specs.Prelude.{◌==◌, ◌&&◌, nat_lt, if◌then◌else◌, Option, Some, None, Ok}
use Rattle.std.specs.Fmt.{decimal}
use Rattle.std.proofs.lemmas.Bool.{lt-ltb, ltb-true, ne_eqb, eq-eqb, eqb-false}
use Rattle.std.proofs.lemmas.Fmt.{decimal_step, decimal_digit, decimal_by_steps, length-decimal-le}
use Rattle.flt_model.specs.Streams.{Text}
use Rattle.flt_model.specs.JournalText.{number_text}
use Rattle.flt_model.specs.JournalTextReading.{Parser, ◌>>=◌, ◌>>◌, pure, exactly, with_digit, found_or, digits, number, wrong}
use Rattle.flt_model.proofs.Online.{Online, Choice, live, dead, said, pure_online, then_online, node, pick, after}

-- ---- one digit more

with_digit_some : (m d : ℕ) → d < 10 → 10 * m + d < 2 ^ 32 → with_digit m (48 + d) ≡ Some (10 * m + d)
with_digit_some m d low small =
    let same : 48 + d - 48 ≡ d = omega arith in
    rw (lt-ltb 47 (48 + d) (omega arith), lt-ltb (48 + d) 58 (omega arith), same, lt-ltb (10 * m + d) (2 ^ 32) small) refl

-- what a digit more is
record IsMore (m b k : ℕ) : Type 0 where
  digit : ℕ
  low : digit < 10
  byte : b ≡ 48 + digit
  value : k ≡ 10 * m + digit
  small : k < 2 ^ 32

with_digit_is : (m b k : ℕ) → with_digit m b ≡ Some k → IsMore m b k
with_digit_is m b k h = go (nat_lt 47 b) (nat_lt b 58) (nat_lt (10 * m + (b - 48)) (2 ^ 32)) refl refl refl h
  where
    go : (x y z : Bool) → nat_lt 47 b ≡ x → nat_lt b 58 ≡ y → nat_lt (10 * m + (b - 48)) (2 ^ 32) ≡ z →
        (if x && (y && z) then Some (10 * m + (b - 48)) else None) ≡ Some k → IsMore m b k
    go true true true e f g h =
        let high : 47 < b = ltb-true 47 b e in
        let low : b < 58 = ltb-true b 58 f in
        let small : 10 * m + (b - 48) < 2 ^ 32 = ltb-true (10 * m + (b - 48)) (2 ^ 32) g in
        let same : 10 * m + (b - 48) ≡ k = cc in
        record { digit = b - 48; low = omega arith; byte = omega arith; value = sym same; small = subst (λ z. z < 2 ^ 32) same small }
    go true true false e f g h = cc
    go true false z e f g h = cc
    go false y z e f g h = cc

-- ---- what is written is read

ended : (left end n : ℕ) (text : Text) → digits left end n (end ∷ text) ≡ Ok (n, text)
unfolding digits
ended zero end n text = rw (eq-eqb end end refl) refl
ended (suc left) end n text = rw (eq-eqb end end refl) refl

one_more : (left end m d : ℕ) (text : Text) → end < 48 → d < 10 → 10 * m + d < 2 ^ 32 →
    digits (suc left) end m ((48 + d) ∷ text) ≡ digits left end (10 * m + d) text
unfolding digits
one_more left end m d text e low small = rw (ne_eqb (48 + d) end (λ h. omega arith), with_digit_some m d low small) refl

first_digit : (end n : ℕ) (text : Text) → 0 < n → n < 10 → number end ((48 + n) ∷ text) ≡ digits 9 end n text
unfolding number
first_digit end n text some low =
    let same : 10 * 0 + n ≡ n = omega arith in
    let read : with_digit 0 (48 + n) ≡ Some n = with_digit_some 0 n low (omega arith) ∙ ap Some same in
    rw (ne_eqb (48 + n) 48 (λ h. omega arith), read) refl

-- the digits of a number, as they are read
ReadsOn : ℕ → ℕ → List ℕ → Type 0
ReadsOn end n ds = 0 < n → n < 2 ^ 32 → length ds ≤ 10 → (0 < length ds)
    × ((text : Text) → number end (ds ++ text) ≡ digits (10 - length ds) end n text)

reads_on : (end n : ℕ) → end < 48 → n < 2 ^ 64 → ReadsOn end n (decimal n)
unfolding ReadsOn
reads_on end n e = decimal_by_steps (ReadsOn end) one more n
  where
    one : (n : ℕ) → n < 10 → ReadsOn end n ((48 + n) ∷ [])
    one n low some small few = (omega arith, λ text. first_digit end n text some low)

    more : (n : ℕ) (ds : List ℕ) → 10 ≤ n → ReadsOn end (n / 10) ds → ReadsOn end n (ds ++ (48 + n % 10) ∷ [])
    more n ds big h some small few =
        let len : length (ds ++ (48 + n % 10) ∷ []) ≡ length ds + 1 = length-append ds ((48 + n % 10) ∷ []) in
        let front = h (omega arith) (omega arith) (omega (arith, len)) in
        let left : 10 - length ds ≡ suc (10 - length (ds ++ (48 + n % 10) ∷ [])) = omega (arith, len) in
        let whole : 10 * (n / 10) + n % 10 ≡ n = omega arith in (
          omega (arith, len),
          λ text. ap (number end) (append_assoc ds ((48 + n % 10) ∷ []) text) ∙ front.1 ((48 + n % 10) ∷ text)
              ∙ ap (λ k. digits k end (n / 10) ((48 + n % 10) ∷ text)) left
              ∙ one_more (10 - length (ds ++ (48 + n % 10) ∷ [])) end (n / 10) (n % 10) text e (omega arith) (omega (arith, whole))
              ∙ ap (λ k. digits (10 - length (ds ++ (48 + n % 10) ∷ [])) end k text) whole,
        )

-- a number below 2^32 is read again before a byte that is no digit
pub number_again : (end n : ℕ) (text : Text) → end < 48 → n < 2 ^ 32 → number end (number_text n end ++ text) ≡ Ok (n, text)
unfolding number ReadsOn
number_again end zero text e small = rw (decimal_digit 0 (omega arith)) (rw (eq-eqb end end refl) refl)
number_again end (suc n) text e small =
    let few : length (decimal (suc n)) ≤ 10 = length-decimal-le 10 (suc n) (omega arith) (omega arith) (omega arith) in
    ap (number end) (append_assoc (decimal (suc n)) (end ∷ []) text)
    ∙ (reads_on end (suc n) e (omega arith) (omega arith) small few).1 (end ∷ text)
    ∙ ended (10 - length (decimal (suc n))) end (suc n) text

-- ---- what is read is written, and a wrong byte goes on no number

-- behind the digits of a number stand those of another
abbrev Tail : ℕ → ℕ → Text → ℕ → Type 0
Tail end m w n = (decimal m ++ w ≡ number_text n end) × (n < 2 ^ 32)

done : (end m : ℕ) → m < 2 ^ 32 → Online (λ w n. Tail end m (end ∷ w) n) (pure m)
done end m small = pure_online (λ w n. Tail end m (end ∷ w) n) m (refl, small)

at_end : (end m : ℕ) (q : Parser ℕ) → m < 2 ^ 32 → Online (λ w n. Tail end m (end ∷ w) n) (if end == end then pure m else q)
at_end end m q small = go (end == end) refl
  where
    go : (x : Bool) → (end == end) ≡ x → Online (λ w n. Tail end m (end ∷ w) n) (if x then pure m else q)
    go true e = done end m small
    go false e = let right : (end == end) ≡ true = eq-eqb end end refl in cc

digit_behind : (m b k : ℕ) → 0 < m → IsMore m b k → decimal k ≡ decimal m ++ b ∷ []
digit_behind m b k some more =
    let low = more.low in
    let value = more.value in
    let small = more.small in
    let big : 10 ≤ k = omega arith in
    let over : k / 10 ≡ m = omega arith in
    let last : k % 10 ≡ more.digit = omega arith in
    decimal_step k big (omega arith) ∙ rw (over, last, more.byte) refl

further : (end m b : ℕ) (p : ℕ → Parser ℕ) (found : Option ℕ) → 0 < m → with_digit m b ≡ found →
    ((k : ℕ) → 0 < k → k < 2 ^ 32 → Online (Tail end k) (p k)) →
    Choice (λ w n. Tail end m (b ∷ w) n) (found_or found p)
further end m b p None some e f = dead (λ text. refl)
further end m b p (Some k) some e f =
    let more = with_digit_is m b k e in
    let value = more.value in
    let text = digit_behind m b k some more in
    live (said (Tail end k) (λ w n. Tail end m (b ∷ w) n) (p k)
    (λ c n h. (sym (append_assoc (decimal m) (b ∷ []) c) ∙ ap (λ z. z ++ c) (sym text) ∙ h.0, h.1))
    (f k (omega arith) more.small))

digits_online : (left end m : ℕ) → 0 < m → m < 2 ^ 32 → Online (Tail end m) (digits left end m)
unfolding digits
digits_online zero end m some small =
    node (Tail end m) (λ b. if b == end then pure m else wrong) end (at_end end m wrong small)
    (λ b. pick (Tail end m) b end (pure m) wrong (done end m small) (λ e. dead (λ text. refl)))
digits_online (suc left) end m some small =
    node (Tail end m) (λ b. if b == end then pure m else found_or (with_digit m b) (digits left end)) end
    (at_end end m (found_or (with_digit m end) (digits left end)) small)
    (λ b. pick (Tail end m) b end (pure m) (found_or (with_digit m b) (digits left end)) (done end m small) (λ e.
    further end m b (digits left end) (with_digit m b) some refl (λ k. digits_online left end k)))

-- a number, and the byte behind it
abbrev pub Whole : ℕ → Text → ℕ → Type 0
Whole end c n = (c ≡ number_text n end) × (n < 2 ^ 32)

zero_online : (end : ℕ) → Online (λ w n. Whole end (48 ∷ w) n) (exactly (end ∷ []) >> pure 0)
zero_online end = after (λ w n. Whole end (48 ∷ w) n) (end ∷ []) (pure 0)
    (pure_online (λ w n. Whole end (48 ∷ end ∷ w) n) 0 (rw (decimal_digit 0 (omega arith)) refl, omega arith))

positive : (k : ℕ) → (k ≡ 0 → ⊥) → 0 < k
positive zero h = absurd (h refl)
positive (suc k) h = omega arith

begins : (end b : ℕ) (found : Option ℕ) → with_digit 0 b ≡ found → (b == 48) ≡ false →
    Choice (λ w n. Whole end (b ∷ w) n) (found_or found (digits 9 end))
begins end b None e differs = dead (λ text. refl)
begins end b (Some k) e differs =
    let more = with_digit_is 0 b k e in
    let low = more.low in
    let value = more.value in
    let byte = more.byte in
    let other : b ≡ 48 → ⊥ = eqb-false b 48 differs in
    let some : 0 < k = positive k (λ z. other (omega arith)) in
    let same : 48 + k ≡ b = omega arith in
    let text : decimal k ≡ b ∷ [] = decimal_digit k (omega arith) ∙ ap (λ z. z ∷ []) same in
    live (said (Tail end k) (λ w n. Whole end (b ∷ w) n) (digits 9 end k) (λ c n h. (ap (λ z. z ++ c) (sym text) ∙ h.0, h.1))
    (digits_online 9 end k some more.small))

-- a number is read up to the first byte that no spelling goes on with
pub number_online : (end : ℕ) → Online (Whole end) (number end)
unfolding number
number_online end = node (Whole end) _ 48 (zero_online end)
    (λ b. pick (Whole end) b 48 _ _ (zero_online end) (λ e. begins end b (with_digit 0 b) refl e))

-- a number and the byte behind it, then what follows them
pub with_number : {B : Type 0} (Js : Text → B → Type 0) (end : ℕ) (k : ℕ → Parser B) →
    ((n : ℕ) → n < 2 ^ 32 → Online (λ w b. Js (number_text n end ++ w) b) (k n)) → Online Js (number end >>= k)
with_number Js end k f = then_online (Whole end) Js (number end) k (number_online end)
    (λ c n h. subst (λ z. Online (λ w b. Js (z ++ w) b) (k n)) (sym h.0) (f n h.1))
