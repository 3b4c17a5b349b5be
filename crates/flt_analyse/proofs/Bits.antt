-- The flags of words after a bit was set or cleared, and where the first one stands.
use Rattle.std.proofs.Common.{◌≡◌, ◌≢◌, ◌<◌, ◌≤◌, ◌+◌, ◌*◌, ◌/◌, ◌%◌, ◌^◌, ℕ, zero, suc, Bool, true, false}
use Rattle.std.proofs.Common.{List, [], ◌∷◌, ◌++◌, length, get_or, Some, None, refl, sym, ap, ◌∙◌, arith}
use Rattle.std.proofs.Math.Path.{subst}
use Rattle.std.proofs.Math.ListN.{set}
use Rattle.std.specs.Prelude.{◌==◌}
use Rattle.std.specs.Int.{bit_at, bit_not, w64}
use Rattle.std.specs.Prelude.{bit_or, bit_and}
use Rattle.std.proofs.lemmas.Nat.Bits.{bit_at-zero, bit_at_set_same, bit_at_set_other, bit_at_clear_same, bit_at_clear_other}
use Rattle.flt_analyse.specs.Pending.{word_flags, flags, least_from, least}

-- ---- one word

length-word : (w k n : ℕ) → length (word_flags w k n) ≡ n
length-word w k zero = refl
length-word w k (suc n) = ap suc (length-word w (suc k) n)

-- words that agree have the same flags
same_word : (v w k n : ℕ) → ((i : ℕ) → k ≤ i → i < k + n → bit_at v i ≡ bit_at w i) → word_flags v k n ≡ word_flags w k n
same_word v w k zero h = refl
same_word v w k (suc n) h =
    let first : (bit_at v k == 1) ≡ (bit_at w k == 1) = ap (λ b. b == 1) (h k (omega arith) (omega arith)) in
    let rest = same_word v w (suc k) n (λ i low high. h i (omega arith) (omega arith)) in
    cc

-- words that agree but for one bit
changed_word : (v w k n j : ℕ) (b : Bool) → j < n → (bit_at v (k + j) == 1) ≡ b →
    ((i : ℕ) → k ≤ i → i < k + n → i ≢ k + j → bit_at v i ≡ bit_at w i) →
    word_flags v k n ≡ set (word_flags w k n) j b
changed_word v w k zero j b l e h = absurd (omega arith)
changed_word v w k (suc n) zero b l e h =
    let first : (bit_at v k == 1) ≡ b = subst (λ i. (bit_at v i == 1) ≡ b) (let a : k + 0 ≡ k = omega arith in a) e in
    let rest = same_word v w (suc k) n (λ i low high. h i (omega arith) (omega arith) (λ s. absurd (omega arith))) in
    cc
changed_word v w k (suc n) (suc j) b l e h =
    let first : (bit_at v k == 1) ≡ (bit_at w k == 1) = ap (λ c. c == 1) (h k (omega arith) (omega arith) (λ s. absurd (omega arith))) in
    let moved : k + suc j ≡ suc k + j = omega arith in
    let rest = changed_word v w (suc k) n j b (omega arith) (subst (λ i. (bit_at v i == 1) ≡ b) moved e)
    (λ i low high s. h i (omega arith) (omega arith) (λ t. s (omega arith))) in
    cc

set_first : (xs ys : List Bool) (i : ℕ) (b : Bool) → i < length xs → set (xs ++ ys) i b ≡ set xs i b ++ ys
set_first [] ys i b l = absurd (omega arith)
set_first (x ∷ xs) ys zero b l = refl
set_first (x ∷ xs) ys (suc i) b l = ap (λ zs. x ∷ zs) (set_first xs ys i b (omega arith))

set_later : (xs ys : List Bool) (i j : ℕ) (b : Bool) → i ≡ length xs + j → set (xs ++ ys) i b ≡ xs ++ set ys j b
set_later [] ys i j b e = ap (λ k. set ys k b) (let a : i ≡ j = omega arith in a)
set_later (x ∷ xs) ys zero j b e = absurd (omega arith)
set_later (x ∷ xs) ys (suc i) j b e = ap (λ zs. x ∷ zs) (set_later xs ys i j b (omega arith))

-- ---- words

-- one bit of one word is changed
pub changed : (words : List ℕ) (i j v : ℕ) (b : Bool) → i < length words → j < 64 → (bit_at v j == 1) ≡ b →
    ((k : ℕ) → k < 64 → k ≢ j → bit_at v k ≡ bit_at (get_or words i 0) k) →
    flags (set words i v) ≡ set (flags words) (64 * i + j) b
changed [] i j v b l m e h = absurd (omega arith)
changed (w ∷ words) zero j v b l m e h =
    let long = length-word w 0 64 in
    let moved : j ≡ 0 + j = omega arith in
    let first : word_flags v 0 64 ≡ set (word_flags w 0 64) j b =
    changed_word v w 0 64 j b m (subst (λ i. (bit_at v i == 1) ≡ b) moved e) (λ k low high s. h k (omega arith) (λ t. s (omega arith))) in
    let place : j ≡ 64 * 0 + j = omega arith in
    ap (λ xs. xs ++ flags words) first ∙
    (sym (set_first (word_flags w 0 64) (flags words) j b (omega arith)) ∙ ap (λ i. set (word_flags w 0 64 ++ flags words) i b) place)
changed (w ∷ words) (suc i) j v b l m e h =
    let long = length-word w 0 64 in
    let rest = changed words i j v b (omega arith) m e h in
    ap (λ xs. word_flags w 0 64 ++ xs) rest
    ∙ sym (set_later (word_flags w 0 64) (flags words) (64 * suc i + j) (64 * i + j) b (omega arith))

-- ---- the least flag

none_in_word : (w s k n : ℕ) (ys : List Bool) → ((i : ℕ) → bit_at w i ≡ 0) → least_from s (word_flags w k n ++ ys) ≡ least_from (s + n) ys
none_in_word w s k zero ys h = ap (λ i. least_from i ys) (let a : s ≡ s + 0 = omega arith in a)
none_in_word w s k (suc n) ys h =
    let first : (bit_at w k == 1) ≡ false = ap (λ b. b == 1) (h k) in
    ap (λ b. least_from s (b ∷ (word_flags w (suc k) n ++ ys))) first
    ∙ (none_in_word w (suc s) (suc k) n ys h ∙ ap (λ i. least_from i ys) (let a : suc s + n ≡ s + suc n = omega arith in a))

some_in_word : (w s k n j : ℕ) (ys : List Bool) → j < n → bit_at w (k + j) ≡ 1 → ((i : ℕ) → i < j → bit_at w (k + i) ≡ 0) →
    least_from s (word_flags w k n ++ ys) ≡ Some (s + j)
some_in_word w s k zero j ys l e h = absurd (omega arith)
some_in_word w s k (suc n) zero ys l e h =
    let here : bit_at w k ≡ 1 = subst (λ i. bit_at w i ≡ 1) (let a : k + 0 ≡ k = omega arith in a) e in
    let first : (bit_at w k == 1) ≡ true = ap (λ b. b == 1) here in
    ap (λ b. least_from s (b ∷ (word_flags w (suc k) n ++ ys))) first ∙ ap (λ i. Some i) (let a : s ≡ s + 0 = omega arith in a)
some_in_word w s k (suc n) (suc j) ys l e h =
    let here : bit_at w k ≡ 0 = subst (λ i. bit_at w i ≡ 0) (let a : k + 0 ≡ k = omega arith in a) (h 0 (omega arith)) in
    let first : (bit_at w k == 1) ≡ false = ap (λ b. b == 1) here in
    let moved : k + suc j ≡ suc k + j = omega arith in
    let rest = some_in_word w (suc s) (suc k) n j ys (omega arith) (subst (λ i. bit_at w i ≡ 1) moved e)
    (λ i low. subst (λ m. bit_at w m ≡ 0) (let a : k + suc i ≡ suc k + i = omega arith in a) (h (suc i) (omega arith))) in
    ap (λ b. least_from s (b ∷ (word_flags w (suc k) n ++ ys))) first
    ∙ (rest ∙ ap (λ i. Some i) (let a : suc s + j ≡ s + suc j = omega arith in a))

zero_bits : (w : ℕ) → w ≡ 0 → (i : ℕ) → bit_at w i ≡ 0
zero_bits w e i = ap (λ k. bit_at k i) e ∙ bit_at-zero i

least_in : (words : List ℕ) (s i j : ℕ) → i < length words → j < 64 → ((k : ℕ) → k < i → get_or words k 0 ≡ 0) →
    bit_at (get_or words i 0) j ≡ 1 →
    ((k : ℕ) → k < j → bit_at (get_or words i 0) k ≡ 0) → least_from s (flags words) ≡ Some (s + (64 * i + j))
least_in [] s i j l m z e h = absurd (omega arith)
least_in (w ∷ words) s zero j l m z e h =
    some_in_word w s 0 64 j (flags words) m (subst (λ i. bit_at w i ≡ 1) (let a : j ≡ 0 + j = omega arith in a) e)
    (λ i low. subst (λ k. bit_at w k ≡ 0) (let a : i ≡ 0 + i = omega arith in a) (h i low))
    ∙ ap (λ k. Some k) (let a : s + j ≡ s + (64 * 0 + j) = omega arith in a)
least_in (w ∷ words) s (suc i) j l m z e h =
    none_in_word w s 0 64 (flags words) (zero_bits w (z 0 (omega arith))) ∙
    (least_in words (s + 64) i j (omega arith) m (λ k low. z (suc k) (omega arith)) e h
    ∙ ap (λ k. Some k) (let a : s + 64 + (64 * i + j) ≡ s + (64 * suc i + j) = omega arith in a))

pub least_at : (words : List ℕ) (i j : ℕ) → i < length words → j < 64 → ((k : ℕ) → k < i → get_or words k 0 ≡ 0) →
    bit_at (get_or words i 0) j ≡ 1 →
    ((k : ℕ) → k < j → bit_at (get_or words i 0) k ≡ 0) → least (flags words) ≡ Some (64 * i + j)
least_at words i j l m z e h = least_in words 0 i j l m z e h ∙ ap (λ k. Some k) (let a : 0 + (64 * i + j) ≡ 64 * i + j = omega arith in a)

none_in : (words : List ℕ) (s : ℕ) → ((k : ℕ) → k < length words → get_or words k 0 ≡ 0) → least_from s (flags words) ≡ None
none_in [] s z = refl
none_in (w ∷ words) s z = none_in_word w s 0 64 (flags words) (zero_bits w (z 0 (omega arith)))
    ∙ none_in words (s + 64) (λ k l. z (suc k) (omega arith))

-- where all words are 0, no flag is up
pub least_none : (words : List ℕ) → ((k : ℕ) → k < length words → get_or words k 0 ≡ 0) → least (flags words) ≡ None
least_none words z = none_in words 0 z

-- the least flag is the first bit of the first word that isn't 0
pub first_is : (words : List ℕ) (i j : ℕ) → i < length words → j < 64 → ((k : ℕ) → k < i → get_or words k 0 ≡ 0) →
    bit_at (get_or words i 0) j ≡ 1 →
    ((k : ℕ) → k < j → bit_at (get_or words i 0) k ≡ 0) → Some (i * 64 + j) ≡ least (flags words)
first_is words i j l m z e h = ap (λ k. Some k) (let a : i * 64 + j ≡ 64 * i + j = omega arith in a) ∙ sym (least_at words i j l m z e h)

-- ---- a point goes in or out

-- a bit that is set in its word is a flag that goes up
pub inserted : (words : List ℕ) (p : ℕ) → length words ≡ 8 → p < 512 →
    flags (set words (p / 64) (bit_or (get_or words (p / 64) 0) (1 * 2 ^ (p % 64) % 18446744073709551616))) ≡ set (flags words) p true
inserted words p long below =
    let low : p % 64 < 64 = omega arith in
    let high : p / 64 < length words = omega arith in
    let place : 64 * (p / 64) + p % 64 ≡ p = omega arith in
    changed words (p / 64) (p % 64) _ true high low
    (ap (λ b. b == 1) (bit_at_set_same w64 (get_or words (p / 64) 0) (p % 64) low))
    (λ k within other. bit_at_set_other w64 (get_or words (p / 64) 0) (p % 64) low k other) ∙ ap (λ i. set (flags words) i true) place

-- a bit that is cleared in its word is a flag that goes down
pub removed : (words : List ℕ) (p : ℕ) → length words ≡ 8 → p < 512 →
    flags (set words (p / 64) (bit_and (get_or words (p / 64) 0) (bit_not w64 (1 * 2 ^ (p % 64) % 18446744073709551616)))) ≡ set
    (flags words) p false
removed words p long below =
    let low : p % 64 < 64 = omega arith in
    let high : p / 64 < length words = omega arith in
    let place : 64 * (p / 64) + p % 64 ≡ p = omega arith in
    changed words (p / 64) (p % 64) _ false high low
    (ap (λ b. b == 1) (bit_at_clear_same w64 (get_or words (p / 64) 0) (p % 64) low))
    (λ k within other. bit_at_clear_other w64 (get_or words (p / 64) 0) (p % 64) low k within other)
    ∙ ap (λ i. set (flags words) i false) place
