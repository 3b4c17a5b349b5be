-- What the operations on bits do to the sets that they stand for.
use Rattle.std.proofs.Common.{◌≡◌, ◌<◌, ℕ, refl, lit<, arith}
use Rattle.std.proofs.lemmas.Nat.{and_assoc, and_le_r}
use Rattle.std.specs.Prelude.{bit_and, bit_or, ◌==◌}
use Rattle.flt_abs.specs.Sets.{statuses, statuses_within, either_status, without_null, modes, modes_within}
use Rattle.flt_abs.specs.Sets.{either_mode, draining, drainings_within, either_draining}
use Rattle.flt_abs.specs.SetLaws.{below_eight, below_four}

pub below_eight_twice : (P : ℕ → ℕ → Type 0) →
    ((m : ℕ) → m < 8 → P m 0) → ((m : ℕ) → m < 8 → P m 1) → ((m : ℕ) → m < 8 → P m 2) → ((m : ℕ) → m < 8 → P m 3) →
    ((m : ℕ) → m < 8 → P m 4) → ((m : ℕ) → m < 8 → P m 5) → ((m : ℕ) → m < 8 → P m 6) → ((m : ℕ) → m < 8 → P m 7) →
    (m n : ℕ) → m < 8 → n < 8 → P m n
below_eight_twice P a b c d e f g h m n l = below_eight (λ k. P m k) (a m l) (b m l) (c m l) (d m l) (e m l) (f m l) (g m l) (h m l) n

pub below_four_twice : (P : ℕ → ℕ → Type 0) →
    ((m : ℕ) → m < 4 → P m 0) → ((m : ℕ) → m < 4 → P m 1) → ((m : ℕ) → m < 4 → P m 2) → ((m : ℕ) → m < 4 → P m 3) →
    (m n : ℕ) → m < 4 → n < 4 → P m n
below_four_twice P a b c d m n l = below_four (λ k. P m k) (a m l) (b m l) (c m l) (d m l) n

-- status sets are within one another as their bits are
pub statuses_within_bits : (m n : ℕ) → m < 8 → n < 8 → (bit_and n m == m) ≡ statuses_within (statuses m) (statuses n)
statuses_within_bits = below_eight_twice (λ m n. (bit_and n m == m) ≡ statuses_within (statuses m) (statuses n))
    (below_eight (λ m. (bit_and 0 m == m) ≡ statuses_within (statuses m) (statuses 0)) refl refl refl refl refl refl refl refl)
    (below_eight (λ m. (bit_and 1 m == m) ≡ statuses_within (statuses m) (statuses 1)) refl refl refl refl refl refl refl refl)
    (below_eight (λ m. (bit_and 2 m == m) ≡ statuses_within (statuses m) (statuses 2)) refl refl refl refl refl refl refl refl)
    (below_eight (λ m. (bit_and 3 m == m) ≡ statuses_within (statuses m) (statuses 3)) refl refl refl refl refl refl refl refl)
    (below_eight (λ m. (bit_and 4 m == m) ≡ statuses_within (statuses m) (statuses 4)) refl refl refl refl refl refl refl refl)
    (below_eight (λ m. (bit_and 5 m == m) ≡ statuses_within (statuses m) (statuses 5)) refl refl refl refl refl refl refl refl)
    (below_eight (λ m. (bit_and 6 m == m) ≡ statuses_within (statuses m) (statuses 6)) refl refl refl refl refl refl refl refl)
    (below_eight (λ m. (bit_and 7 m == m) ≡ statuses_within (statuses m) (statuses 7)) refl refl refl refl refl refl refl refl)

-- the bits of either are those of both status sets joined
pub either_status_bits : (m n : ℕ) → m < 8 → n < 8 → statuses (bit_or m n) ≡ either_status (statuses m) (statuses n)
either_status_bits = below_eight_twice (λ m n. statuses (bit_or m n) ≡ either_status (statuses m) (statuses n))
    (below_eight (λ m. statuses (bit_or m 0) ≡ either_status (statuses m) (statuses 0)) refl refl refl refl refl refl refl refl)
    (below_eight (λ m. statuses (bit_or m 1) ≡ either_status (statuses m) (statuses 1)) refl refl refl refl refl refl refl refl)
    (below_eight (λ m. statuses (bit_or m 2) ≡ either_status (statuses m) (statuses 2)) refl refl refl refl refl refl refl refl)
    (below_eight (λ m. statuses (bit_or m 3) ≡ either_status (statuses m) (statuses 3)) refl refl refl refl refl refl refl refl)
    (below_eight (λ m. statuses (bit_or m 4) ≡ either_status (statuses m) (statuses 4)) refl refl refl refl refl refl refl refl)
    (below_eight (λ m. statuses (bit_or m 5) ≡ either_status (statuses m) (statuses 5)) refl refl refl refl refl refl refl refl)
    (below_eight (λ m. statuses (bit_or m 6) ≡ either_status (statuses m) (statuses 6)) refl refl refl refl refl refl refl refl)
    (below_eight (λ m. statuses (bit_or m 7) ≡ either_status (statuses m) (statuses 7)) refl refl refl refl refl refl refl refl)

-- three bits joined are three bits
pub or_below_eight : (m n : ℕ) → m < 8 → n < 8 → bit_or m n < 8
or_below_eight = below_eight_twice (λ m n. bit_or m n < 8)
    (below_eight (λ m. bit_or m 0 < 8) (lit< tt) (lit< tt) (lit< tt) (lit< tt) (lit< tt) (lit< tt) (lit< tt) (lit< tt))
    (below_eight (λ m. bit_or m 1 < 8) (lit< tt) (lit< tt) (lit< tt) (lit< tt) (lit< tt) (lit< tt) (lit< tt) (lit< tt))
    (below_eight (λ m. bit_or m 2 < 8) (lit< tt) (lit< tt) (lit< tt) (lit< tt) (lit< tt) (lit< tt) (lit< tt) (lit< tt))
    (below_eight (λ m. bit_or m 3 < 8) (lit< tt) (lit< tt) (lit< tt) (lit< tt) (lit< tt) (lit< tt) (lit< tt) (lit< tt))
    (below_eight (λ m. bit_or m 4 < 8) (lit< tt) (lit< tt) (lit< tt) (lit< tt) (lit< tt) (lit< tt) (lit< tt) (lit< tt))
    (below_eight (λ m. bit_or m 5 < 8) (lit< tt) (lit< tt) (lit< tt) (lit< tt) (lit< tt) (lit< tt) (lit< tt) (lit< tt))
    (below_eight (λ m. bit_or m 6 < 8) (lit< tt) (lit< tt) (lit< tt) (lit< tt) (lit< tt) (lit< tt) (lit< tt) (lit< tt))
    (below_eight (λ m. bit_or m 7 < 8) (lit< tt) (lit< tt) (lit< tt) (lit< tt) (lit< tt) (lit< tt) (lit< tt) (lit< tt))

-- the null bit taken out of a status set's bits is null taken out of the set
pub without_null_bits : (n : ℕ) → n < 8 → statuses (bit_and n 6) ≡ without_null (statuses n)
without_null_bits = below_eight (λ n. statuses (bit_and n 6) ≡ without_null (statuses n)) refl refl refl refl refl refl refl refl

-- what remains of three bits is three bits
pub and_below_eight : (n : ℕ) → n < 8 → bit_and n 6 < 8
and_below_eight = below_eight (λ n. bit_and n 6 < 8) (lit< tt) (lit< tt) (lit< tt) (lit< tt) (lit< tt) (lit< tt) (lit< tt) (lit< tt)

-- the three lowest bits of a number give the set that the number gives
pub low_bits : (n : ℕ) → statuses (bit_and n 7) ≡ statuses n
low_bits n = rw (and_assoc 1 n 7, and_assoc 2 n 7, and_assoc 4 n 7) refl

-- the lowest three bits of a number are three bits
pub low_bits_below_eight : (n : ℕ) → bit_and n 7 < 8
low_bits_below_eight n = omega (arith, and_le_r n 7)

-- mode sets are within one another as their bits are
pub modes_within_bits : (m n : ℕ) → m < 4 → n < 4 → (bit_and n m == m) ≡ modes_within (modes m) (modes n)
modes_within_bits = below_four_twice (λ m n. (bit_and n m == m) ≡ modes_within (modes m) (modes n))
    (below_four (λ m. (bit_and 0 m == m) ≡ modes_within (modes m) (modes 0)) refl refl refl refl)
    (below_four (λ m. (bit_and 1 m == m) ≡ modes_within (modes m) (modes 1)) refl refl refl refl)
    (below_four (λ m. (bit_and 2 m == m) ≡ modes_within (modes m) (modes 2)) refl refl refl refl)
    (below_four (λ m. (bit_and 3 m == m) ≡ modes_within (modes m) (modes 3)) refl refl refl refl)

-- the bits of either are those of both mode sets joined
pub either_mode_bits : (m n : ℕ) → m < 4 → n < 4 → modes (bit_or m n) ≡ either_mode (modes m) (modes n)
either_mode_bits = below_four_twice (λ m n. modes (bit_or m n) ≡ either_mode (modes m) (modes n))
    (below_four (λ m. modes (bit_or m 0) ≡ either_mode (modes m) (modes 0)) refl refl refl refl)
    (below_four (λ m. modes (bit_or m 1) ≡ either_mode (modes m) (modes 1)) refl refl refl refl)
    (below_four (λ m. modes (bit_or m 2) ≡ either_mode (modes m) (modes 2)) refl refl refl refl)
    (below_four (λ m. modes (bit_or m 3) ≡ either_mode (modes m) (modes 3)) refl refl refl refl)

-- draining sets are within one another as their bits are
pub drainings_within_bits : (m n : ℕ) → m < 4 → n < 4 → (bit_and n m == m) ≡ drainings_within (draining m) (draining n)
drainings_within_bits = below_four_twice (λ m n. (bit_and n m == m) ≡ drainings_within (draining m) (draining n))
    (below_four (λ m. (bit_and 0 m == m) ≡ drainings_within (draining m) (draining 0)) refl refl refl refl)
    (below_four (λ m. (bit_and 1 m == m) ≡ drainings_within (draining m) (draining 1)) refl refl refl refl)
    (below_four (λ m. (bit_and 2 m == m) ≡ drainings_within (draining m) (draining 2)) refl refl refl refl)
    (below_four (λ m. (bit_and 3 m == m) ≡ drainings_within (draining m) (draining 3)) refl refl refl refl)

-- the bits of either are those of both draining sets joined
pub either_draining_bits : (m n : ℕ) → m < 4 → n < 4 → draining (bit_or m n) ≡ either_draining (draining m) (draining n)
either_draining_bits = below_four_twice (λ m n. draining (bit_or m n) ≡ either_draining (draining m) (draining n))
    (below_four (λ m. draining (bit_or m 0) ≡ either_draining (draining m) (draining 0)) refl refl refl refl)
    (below_four (λ m. draining (bit_or m 1) ≡ either_draining (draining m) (draining 1)) refl refl refl refl)
    (below_four (λ m. draining (bit_or m 2) ≡ either_draining (draining m) (draining 2)) refl refl refl refl)
    (below_four (λ m. draining (bit_or m 3) ≡ either_draining (draining m) (draining 3)) refl refl refl refl)

-- two bits joined are two bits
pub or_below_four : (m n : ℕ) → m < 4 → n < 4 → bit_or m n < 4
or_below_four = below_four_twice (λ m n. bit_or m n < 4)
    (below_four (λ m. bit_or m 0 < 4) (lit< tt) (lit< tt) (lit< tt) (lit< tt))
    (below_four (λ m. bit_or m 1 < 4) (lit< tt) (lit< tt) (lit< tt) (lit< tt))
    (below_four (λ m. bit_or m 2 < 4) (lit< tt) (lit< tt) (lit< tt) (lit< tt))
    (below_four (λ m. bit_or m 3 < 4) (lit< tt) (lit< tt) (lit< tt) (lit< tt))
