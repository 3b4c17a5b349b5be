-- Single bits of a word.
use Rattle.std.proofs.Common.{◌≡◌, ◌≢◌, ◌↔◌, ℕ, ◌*◌, ◌/◌, ◌%◌, ◌^◌, ◌<◌, ◌≤◌, bit_and, not, nat_eq}
use Rattle.std.proofs.Common.{Bool, true, false, IsTrue, ap, sym, ◌∙◌, arith, tests, w64}
use Rattle.std.proofs.lemmas.Nat.{one_shl, pow_pos}
use Rattle.std.specs.Int.{bit_at, trailing_zeros}
use Rattle.std.proofs.lemmas.Nat.Bits.{and_pow, bit_at-lt, bit_at-trailing_zeros, bit_at-zero, bit_at_above, same_from_bits_below}

-- the test by a shifted one finds a bit that is set
pub is_set : (n k : ℕ) → k < 64 → IsTrue (not (nat_eq (bit_and n (1 * 2 ^ k % 2 ^ 64)) 0)) ↔ (bit_at n k ≡ 1)
is_set n k within = grind (arith, tests, one_shl k 64 within, and_pow n k, pow_pos k, bit_at-lt n k)

-- a number that has a bit isn't 0
pub is_some : (n k : ℕ) → bit_at n k ≡ 1 → n ≢ 0
is_some n k set none = absurd (let e : 1 ≡ 0 = sym set ∙ ap (λ m. bit_at m k) none ∙ bit_at-zero k in omega arith)

-- a number none of whose 64 bits is set is 0
pub is_none : (n : ℕ) → n < 2 ^ 64 → ((k : ℕ) → k < 64 → bit_at n k ≡ 0) → n ≡ 0
is_none n fits none = same_from_bits_below 64 n 0 fits (omega arith) (λ k below. none k below ∙ sym (bit_at-zero k))

-- a number that is 0 has no bit
pub all_clear : (n : ℕ) → n ≡ 0 → (k : ℕ) → bit_at n k ≡ 0
all_clear n none k = ap (λ m. bit_at m k) none ∙ bit_at-zero k

-- a number that is 0 once its lowest bits are gone has no other bit
pub none_from : (n k : ℕ) → n / 2 ^ k ≡ 0 → (i : ℕ) → k ≤ i → bit_at n i ≡ 0
none_from n k gone i from = bit_at_above n k i (below gone) from
  where
    below : n / 2 ^ k ≡ 0 → n < 2 ^ k
    below e = grind (arith, pow_pos k)

-- below the lowest bit that is set none is
pub none_below : (n : ℕ) → n < 2 ^ 64 → n ≢ 0 → (i : ℕ) → i < trailing_zeros w64 n → bit_at n i ≡ 0
none_below n fits some = (bit_at-trailing_zeros w64 n (omega arith) fits).2

-- a test that fails finds the bit clear
pub is_clear : (b : Bool) (n k : ℕ) → (IsTrue b ↔ (bit_at n k ≡ 1)) → b ≡ false → bit_at n k ≡ 0
is_clear b n k same failed = omega (arith, bit_at-lt n k, not_one)
  where
    not_one : bit_at n k ≢ 1
    not_one one = let e : true ≡ false = sym (same.1 one) ∙ failed in absurd (cc)
