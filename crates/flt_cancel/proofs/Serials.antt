-- How often a serial stands among those of a word.
use Rattle.std.proofs.Common.{◌≡◌, ◌≢◌, ◌⊎◌, ℕ, zero, suc, ◌+◌, ◌*◌, ◌/◌, ◌%◌, ◌<◌, ◌≤◌, ◌==◌, eq-eqb, ne_eqb}
use Rattle.std.proofs.Common.{Bool, List, [], ◌∷◌, ◌++◌, refl, sym, ap, ◌∙◌, inl, inr, ⊎_elim, arith}
use Rattle.std.specs.Prelude.{if◌then◌else◌}
use Rattle.std.specs.Int.{bit_at}
use Rattle.std.proofs.lemmas.Nat.Bits.{bit_at-lt}
use mathlib.Core.Logic.{dite}
use native.Mathlib.Decide.{ℕ_discrete}
use Rattle.flt_cancel.specs.Laws.{times}
use Rattle.flt_cancel.specs.Serials.{word_of, serials_below, serials}

-- a serial is as often among two lists as in both
pub times-append : (x : ℕ) (xs ys : List ℕ) → times x (xs ++ ys) ≡ times x xs + times x ys
times-append x [] ys = omega arith
times-append x (y ∷ xs) ys = omega (arith, times-append x xs ys)

-- a serial is once among itself alone
pub times_one_same : (x y : ℕ) → x ≡ y → times x (y ∷ []) ≡ 1
times_one_same x y e = ap (λ (b : Bool). (if b then 1 else 0) + 0) (eq-eqb y x (sym e))

-- another serial isn't among one alone
pub times_one_other : (x y : ℕ) → x ≢ y → times x (y ∷ []) ≡ 0
times_one_other x y ne = ap (λ (b : Bool). (if b then 1 else 0) + 0) (ne_eqb y x (λ e. ne (sym e)))

piece_same : (k i n x : ℕ) → x ≡ 64 * i + k → times x (if bit_at n k == 1 then (64 * i + k) ∷ [] else []) ≡ bit_at n k
piece_same k i n x e = dite
    (ℕ_discrete (bit_at n k) 1)
    (λ one. ap (λ (b : Bool). times x (if b then (64 * i + k) ∷ [] else [])) (eq-eqb (bit_at n k) 1 one)
    ∙ times_one_same x (64 * i + k) e ∙ sym one)
    (λ ne. ap (λ (b : Bool). times x (if b then (64 * i + k) ∷ [] else [])) (ne_eqb (bit_at n k) 1 ne) ∙ omega (arith, bit_at-lt n k, ne))

piece_other : (k i n x : ℕ) → x ≢ 64 * i + k → times x (if bit_at n k == 1 then (64 * i + k) ∷ [] else []) ≡ 0
piece_other k i n x ne = dite
    (ℕ_discrete (bit_at n k) 1)
    (λ one. ap (λ (b : Bool). times x (if b then (64 * i + k) ∷ [] else [])) (eq-eqb (bit_at n k) 1 one)
    ∙ times_one_other x (64 * i + k) ne)
    (λ clear. ap (λ (b : Bool). times x (if b then (64 * i + k) ∷ [] else [])) (ne_eqb (bit_at n k) 1 clear))

-- no serial of another word stands there, nor one of a higher place
absent : (k i n x : ℕ) → k ≤ 64 → (x / 64 ≢ i) ⊎ (k ≤ x % 64) → times x (serials_below k i n) ≡ 0
absent zero i n x le out = refl
absent (suc k) i n x le out =
    let ne : x ≢ 64 * i + k = (λ e. ⊎_elim (λ (other : x / 64 ≢ i). other (omega arith)) (λ (far : suc k ≤ x % 64). omega arith) out) in
    let before = absent k i n x (omega arith)
    (⊎_elim (λ (other : x / 64 ≢ i). inl other) (λ (far : suc k ≤ x % 64). inr (omega arith)) out) in
    times-append x (serials_below k i n) _ ∙ omega (arith, before, piece_other k i n x ne)

by_bit : (k i n x : ℕ) → k ≤ 64 → x / 64 ≡ i → x % 64 < k → times x (serials_below k i n) ≡ bit_at n (x % 64)
by_bit zero i n x le e lt = absurd (omega arith)
by_bit (suc k) i n x le e lt = dite
    (ℕ_discrete (x % 64) k)
    (λ last.
    let is : x ≡ 64 * i + k = omega arith in
    times-append x (serials_below k i n) _
    ∙ omega (arith, absent k i n x (omega arith) (inr (omega arith)), piece_same k i n x is) ∙ ap (bit_at n) (sym last))
    (λ below.
    let ne : x ≢ 64 * i + k = (λ is. below (omega arith)) in
    times-append x (serials_below k i n) _ ∙ omega (arith, by_bit k i n x (omega arith) e (omega (arith, below)), piece_other k i n x ne))

-- a serial stands once among those of its word if its bit is set, and else not
pub times_here : (word bits serial : ℕ) → word_of serial ≡ word → times serial (serials word bits) ≡ bit_at bits (serial % 64)
times_here word bits serial e = by_bit 64 word bits serial (omega arith) e (omega arith)

-- a serial isn't among those of another word
pub times_elsewhere : (word bits serial : ℕ) → word_of serial ≢ word → times serial (serials word bits) ≡ 0
times_elsewhere word bits serial ne = absent 64 word bits serial (omega arith) (inl ne)
