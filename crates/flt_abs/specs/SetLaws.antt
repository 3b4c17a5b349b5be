-- Sets and their bits.
use Rattle.std.proofs.Common.{◌≡◌, ℕ, zero, suc, ◌<◌, refl, arith}
use Rattle.flt_abs.specs.Sets.{statuses, status_bits, modes, mode_bits, draining, draining_bits}

-- what holds of each number below eight
pub below_eight : (P : ℕ → Type 0) → P 0 → P 1 → P 2 → P 3 → P 4 → P 5 → P 6 → P 7 → (n : ℕ) → n < 8 → P n
below_eight P a b c d e f g h zero below = a
below_eight P a b c d e f g h (suc zero) below = b
below_eight P a b c d e f g h (suc (suc zero)) below = c
below_eight P a b c d e f g h (suc (suc (suc zero))) below = d
below_eight P a b c d e f g h (suc (suc (suc (suc zero)))) below = e
below_eight P a b c d e f g h (suc (suc (suc (suc (suc zero))))) below = f
below_eight P a b c d e f g h (suc (suc (suc (suc (suc (suc zero)))))) below = g
below_eight P a b c d e f g h (suc (suc (suc (suc (suc (suc (suc zero))))))) below = h
below_eight P a b c d e f g h (suc (suc (suc (suc (suc (suc (suc (suc n)))))))) below = absurd (omega arith)

pub status_bits-statuses : (n : ℕ) → n < 8 → status_bits (statuses n) ≡ n
status_bits-statuses = below_eight (λ n. status_bits (statuses n) ≡ n) refl refl refl refl refl refl refl refl

-- what holds of each number below four
pub below_four : (P : ℕ → Type 0) → P 0 → P 1 → P 2 → P 3 → (n : ℕ) → n < 4 → P n
below_four P a b c d zero below = a
below_four P a b c d (suc zero) below = b
below_four P a b c d (suc (suc zero)) below = c
below_four P a b c d (suc (suc (suc zero))) below = d
below_four P a b c d (suc (suc (suc (suc n)))) below = absurd (omega arith)

pub mode_bits-modes : (n : ℕ) → n < 4 → mode_bits (modes n) ≡ n
mode_bits-modes = below_four (λ n. mode_bits (modes n) ≡ n) refl refl refl refl

pub draining_bits-draining : (n : ℕ) → n < 4 → draining_bits (draining n) ≡ n
draining_bits-draining = below_four (λ n. draining_bits (draining n) ≡ n) refl refl refl refl
