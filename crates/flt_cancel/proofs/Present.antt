-- Which bits are set after a step.
use Rattle.std.proofs.Common.{◌≡◌, ◌≢◌, ℕ, zero, suc, ◌/◌, ◌%◌, ◌<◌, List, length, replicate, set, max, refl, sym, ap, ◌∙◌, arith}
use Rattle.std.specs.Prelude.{slice_index, bit_or}
use Rattle.std.specs.Int.{bit_at}
use Rattle.std.proofs.lemmas.Nat.Bits.{bit_at-lt, bit_at_or, bit_at-zero, bit_at-pow_same, bit_at-pow_other}
use Rattle.std.proofs.lemmas.List.{get_or-set_same, get_or-set_other}
use mathlib.Core.Logic.{dite}
use native.Mathlib.Decide.{ℕ_discrete}
use Rattle.flt_cancel.specs.Serials.{word_of, mask_of, present}

-- serials with one mask on one word are one
pub same_serial : (x y : ℕ) → word_of x ≡ word_of y → mask_of x ≡ mask_of y → x ≡ y
same_serial x y w m = dite
    (ℕ_discrete (x % 64) (y % 64))
    (λ e. omega (arith, e, w))
    (λ ne. let z : 1 ≡ 0 = sym (bit_at-pow_same (x % 64)) ∙ ap (λ (n : ℕ). bit_at n (x % 64)) m
    ∙ bit_at-pow_other (y % 64) (x % 64) ne in absurd (omega (arith, z)))

-- at the start no serial is present
pub at_start : (serial : ℕ) → present (replicate 1024 0) serial ≡ 0
at_start serial = ap (λ (n : ℕ). bit_at n (serial % 64)) (zero_at 1024 (serial / 64)) ∙ bit_at-zero (serial % 64)
  where
    zero_at : (n i : ℕ) → slice_index (replicate n 0) i ≡ 0
    zero_at zero i = refl
    zero_at (suc n) zero = refl
    zero_at (suc n) (suc i) = zero_at n i

here : (words : List ℕ) (word bits serial : ℕ) → word < length words → word_of serial ≡ word →
    present (set words word bits) serial ≡ bit_at bits (serial % 64)
here words word bits serial lt e = ap (λ (n : ℕ). bit_at n (serial % 64))
    (ap (λ (j : ℕ). slice_index (set words word bits) j) e ∙ get_or-set_same words word bits 0 lt)

-- what changes in another word doesn't change whether a serial is present
pub elsewhere : (words : List ℕ) (word bits serial : ℕ) → word_of serial ≢ word →
    present (set words word bits) serial ≡ present words serial
elsewhere words word bits serial ne = ap (λ (n : ℕ). bit_at n (serial % 64)) (get_or-set_other words word (serial / 64) bits 0 ne)

-- a serial that was asked is present
pub after_ask : (words : List ℕ) (x : ℕ) → word_of x < length words →
    present (set words (word_of x) (bit_or (slice_index words (word_of x)) (mask_of x))) x ≡ 1
after_ask words x lt = here words (word_of x) _ x lt refl ∙ bit_at_or (slice_index words (word_of x)) (mask_of x) (x % 64)
    ∙ omega (arith, bit_at-pow_same (x % 64), bit_at-lt (slice_index words (word_of x)) (x % 64))

-- to ask for another serial doesn't change whether this one is present
pub after_another_ask : (words : List ℕ) (x serial : ℕ) → word_of x < length words → serial ≢ x →
    present (set words (word_of x) (bit_or (slice_index words (word_of x)) (mask_of x))) serial ≡ present words serial
after_another_ask words x serial lt ne = dite
    (ℕ_discrete (word_of serial) (word_of x))
    (λ one_word.
    let n : ℕ = slice_index words (word_of x) in
    let clear : bit_at (mask_of x) (serial % 64) ≡ 0 = bit_at-pow_other (x % 64) (serial % 64) (λ e. ne (omega (arith, e, one_word))) in
    let same : max (bit_at n (serial % 64)) 0 ≡ bit_at n (serial % 64) = omega arith in
    here words (word_of x) _ serial lt one_word ∙ bit_at_or n (mask_of x) (serial % 64) ∙ ap (max (bit_at n (serial % 64))) clear ∙ same
    ∙ ap (λ (j : ℕ). bit_at (slice_index words j) (serial % 64)) (sym one_word))
    (λ apart. elsewhere words (word_of x) _ serial apart)

-- after its word was collected, a serial isn't present
pub after_collection : (words : List ℕ) (word serial : ℕ) → word < length words → word_of serial ≡ word →
    present (set words word 0) serial ≡ 0
after_collection words word serial lt e = here words word 0 serial lt e ∙ bit_at-zero (serial % 64)

-- a serial's bit in its word, named otherwise
pub in_word : (words : List ℕ) (word serial : ℕ) → word_of serial ≡ word →
    present words serial ≡ bit_at (slice_index words word) (serial % 64)
in_word words word serial e = ap (λ (j : ℕ). bit_at (slice_index words j) (serial % 64)) e
