-- The order of locks by computing, point by point.
-- Here g is a graph, k a certificate, a an acquisition, n a lock's place.
use Rattle.std.proofs.Common.{◌≡◌, ℕ, zero, suc, ◌<◌, Bool, true, List, [], ◌∷◌, length, Option, Some, subst, arith}
use Rattle.std.specs.Prelude.{nat_lt}
use Rattle.std.specs.List.{All, list_all}
use Rattle.std.proofs.Math.ListN.{get_or}
use Rattle.std.proofs.lemmas.Bool.{and_parts, ltb-true}
use Rattle.flt_rules.specs.Call.{place_of}
use Rattle.flt_rules.specs.declared.call.LockNumber.{LockNumber}
use Rattle.flt_rules.specs.declared.held.HeldLock.{HeldLock}
use Rattle.flt_graph.specs.declared.graph.Graph.{Graph}
use Rattle.flt_abs.specs.State.{State}
use Rattle.flt_cert.specs.Format.{Certificate}
use Rattle.flt_order.specs.Order.{taken_by, TakesInOrder}
use Rattle.flt_sound.proofs.progress.Waiting.{below_by}
use Rattle.flt_check.specs.Covering.{state_at}
use Rattle.flt_graph.specs.Graph.{instruction_at}

-- whether each lock that is held at a point has a smaller rank than the one that is taken there
abbrev pub keeps_order : (ℕ → ℕ) → Option State → Option LockNumber → Bool
keeps_order rank (Some x) (Some l) = list_all (λ (h : HeldLock). nat_lt (rank (place_of h.lock)) (rank (place_of l))) x.locks
keeps_order rank _ _ = true

-- each element of a list that passes
passing : {X : Type 0} (test : X → Bool) (xs : List X) → list_all test xs ≡ true → (i : ℕ) (d : X) → i < length xs →
    test (get_or xs i d) ≡ true
passing test [] h i d there = absurd (omega (arith, there))
passing test (x ∷ xs) h zero d there = (and_parts _ _ h).0
passing test (x ∷ xs) h (suc i) d there = passing test xs (and_parts _ _ h).1 i d (omega (arith, there))

-- a point that passes keeps the order
pub kept_order : (rank : ℕ → ℕ) (o : Option State) (t : Option LockNumber) (x : State) (l : LockNumber) → o ≡ Some x → t ≡ Some l →
    keeps_order rank o t ≡ true → All (λ (h : HeldLock). rank (place_of h.lock) < rank (place_of l)) x.locks
kept_order rank o t x l e f h i d there =
    let both : keeps_order rank (Some x) (Some l) ≡ true =
    subst (λ o. keeps_order rank o (Some l) ≡ true) e (subst (λ t. keeps_order rank o t ≡ true) f h) in
    let below = passing (λ (h : HeldLock). nat_lt (rank (place_of h.lock)) (rank (place_of l))) x.locks both i d there in
    ltb-true (rank (place_of (get_or x.locks i d).lock)) (rank (place_of l)) below

-- so each acquisition keeps it, where each point passes
pub order_by : (g : Graph) (k : Certificate) (rank : ℕ → ℕ) → ((callback point : ℕ) (x : State) (l : LockNumber) →
    state_at k callback point ≡ Some x → taken_by (instruction_at g callback point) ≡ Some l →
    All (λ (h : HeldLock). rank (place_of h.lock) < rank (place_of l)) x.locks) → TakesInOrder g k
order_by g k rank all = record {
  rank = rank;
  ordered = λ a q. below_by rank (rank (place_of a.taken)) (place_of a.holding) q.state.locks
      (all a.callback a.point q.state a.taken q.reached q.takes) q.holds;
}
