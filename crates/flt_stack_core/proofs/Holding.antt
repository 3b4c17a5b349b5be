-- What seats hold together.
use Rattle.std.proofs.Common.{add-one, ◌≡◌, ◌+◌, ◌<◌, ◌≤◌, ℕ, zero, suc, List, [], ◌∷◌}
use Rattle.std.proofs.Common.{length, map, take, get_or, Contains, arith, inl, inr}
use Rattle.std.proofs.lemmas.List.{length-append}
use Rattle.std.proofs.lemmas.List.Elements.{Contains-append_cases, Contains-append_left, Contains-append_right}
use Rattle.flt_stack_core.specs.Receipts.{together}
use Rattle.flt_stack_core.specs.declared.receipt.Receipt.{Receipt}

module _ {S : Type 0} (held : S → List Receipt) (r : Receipt) where
  -- what one seat holds the seats hold together
  pub held_by_one : (seats : List S) (k : ℕ) (d : S) → k < length seats → Contains (held (get_or seats k d)) r →
      Contains (together (map held seats)) r
  held_by_one [] k d here has = absurd (omega arith)
  held_by_one (s ∷ seats) zero d here has = Contains-append_left (held s) (together (map held seats)) r has
  held_by_one (s ∷ seats) (suc k) d here has =
      Contains-append_right (held s) (together (map held seats)) r (held_by_one seats k d (omega arith) has)

  -- what none of them holds they don't hold together
  pub held_by_none : (seats : List S) → ((k : ℕ) (d : S) → k < length seats → Contains (held (get_or seats k d)) r → ⊥) →
      Contains (together (map held seats)) r → ⊥
  held_by_none [] none has = absurd (let h = has.1 in omega arith)
  held_by_none (s ∷ seats) none has =
      elim (Contains-append_cases (held s) (together (map held seats)) r has) [
        | inl here ↦ none 0 s (omega arith) here
        | inr there ↦ held_by_none seats (λ k d below. none (suc k) d (omega arith)) there
      ]

module _ {S : Type 0} (held : S → List Receipt) where
  one_seat : (seats : List S) (k : ℕ) (d : S) → k < length seats →
      length (together (map held (take (suc k) seats)))
      ≡ length (together (map held (take k seats))) + length (held (get_or seats k d))
  one_seat [] k d here = absurd (omega arith)
  one_seat (s ∷ seats) zero d here = omega (arith, length-append (held s) [])
  one_seat (s ∷ seats) (suc k) d here =
      omega (
        arith,
        length-append (held s) (together (map held (take (suc k) seats))),
        length-append (held s) (together (map held (take k seats))),
        one_seat seats k d (omega arith),
      )

  -- one seat more holds so many more
  pub one_seat_more : (seats : List S) (k : ℕ) (d : S) → k < length seats →
      length (together (map held (take (k + 1) seats)))
      ≡ length (together (map held (take k seats))) + length (held (get_or seats k d))
  one_seat_more seats k d here = rw add-one (one_seat seats k d here)

  -- some seats hold no more than all
  pub no_more : (seats : List S) (k : ℕ) → length (together (map held (take k seats))) ≤ length (together (map held seats))
  no_more [] zero = omega arith
  no_more [] (suc k) = omega arith
  no_more (s ∷ seats) zero = omega arith
  no_more (s ∷ seats) (suc k) =
      omega (
        arith,
        length-append (held s) (together (map held (take k seats))),
        length-append (held s) (together (map held seats)),
        no_more seats k,
      )
