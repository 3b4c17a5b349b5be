-- The count of a point's transfers and what is still due to it stay within 31.
use Rattle.std.proofs.Common.{◌≡◌, ◌≢◌, ◌≤◌, ◌+◌, ℕ, Bool, true, false, Some, Ok, sym, ap, ◌∙◌, arith, inl, inr}
use Rattle.std.proofs.Math.Path.{subst}
use Rattle.std.specs.Prelude.{◌⊎◌, ◌&&◌, ◌==◌, if◌then◌else◌}
use Rattle.std.proofs.lemmas.Bool.{cases_eq, ne_eqb, and_left, and_right}
use Rattle.flt_graph.specs.declared.graph.Graph.{Graph}
use Rattle.flt_analyse.specs.Columns.{ProperSteps}
use Rattle.flt_analyse.specs.Pending.{least}
use Rattle.flt_analyse.specs.Ticks.{one_at}
use Rattle.flt_analyse.specs.Walk.{look, taken, outcome_at}
use Rattle.flt_analyse.specs.declared.walk.Walk.{Walk}
use Rattle.flt_analyse.proofs.Order.{Laws}
use Rattle.flt_analyse.proofs.Sizes.{bit, bit_one}
use Rattle.flt_analyse.proofs.Stages.{found, flagged, due}
use Rattle.flt_analyse.proofs.Walks.{Stage, least_is, falls_due}

one_if : (b : Bool) → (if b then 1 else 0) ≤ 1
one_if true = omega arith
one_if false = omega arith

one_most : (watched_callback watched callback point : ℕ) → one_at watched_callback watched callback point ≤ 1
one_most d q callback point = one_if (callback == d && point == q)

-- at another callback than the one that is watched nothing is counted
pub other_callback : (watched_callback watched callback point : ℕ) → watched_callback ≢ callback →
    one_at watched_callback watched callback point ≡ 0
other_callback d q callback point h =
    ap (λ b. if b then 1 else 0) (and_left (callback == d) (point == q) (ne_eqb callback d (λ e. h (sym e))))

other_point : (watched_callback watched callback point : ℕ) → (watched ≡ point → ⊥) → one_at watched_callback watched callback point ≡ 0
other_point d q callback point h = ap (λ b. if b then 1 else 0) (and_right (callback == d) (point == q) (ne_eqb point q (λ e. h (sym e))))

-- after one more look the count of a point's transfers and what is still due to it are within 31
pub counted : Laws → (g : Graph) (callback : ℕ) (w v : Walk) (p : ℕ) → Stage g callback w → least w.pending ≡ Some p →
    ProperSteps (outcome_at g callback p (found w p)) → look g callback p (taken w p) ≡ Ok v →
    (d q before now start : ℕ) → now ≤ before + one_at d q callback p → before + due w q ≤ start + 31 → now + due v q ≤ start + 31
counted laws g callback w v p s e ok h d q before now start n m = by_place (cases_eq q p)
  where
    by_place : ((q ≡ p) ⊎ (q ≡ p → ⊥)) → now + due v q ≤ start + 31
    by_place (inl k) =
        let a : due v q + 1 ≤ due w q = subst (λ i. due v i + 1 ≤ due w i) (sym k) (falls_due laws g callback w v p s e ok h).1 in
        let b = one_most d q callback p in omega arith
    by_place (inr k) =
        let a = (falls_due laws g callback w v p s e ok h).0 q in
        let b = other_point d q callback p k in omega arith

-- where a walk stops, the count of a point's transfers is within 31
pub stopped : (g : Graph) (callback : ℕ) (w : Walk) (p : ℕ) → Stage g callback w → least w.pending ≡ Some p →
    (d q before now start : ℕ) → now ≤ before + one_at d q callback p → before + due w q ≤ start + 31 → now ≤ start + 31
stopped g callback w p s e d q before now start n m = by_place (cases_eq q p)
  where
    by_place : ((q ≡ p) ⊎ (q ≡ p → ⊥)) → now ≤ start + 31
    by_place (inl k) =
        let a : bit (flagged w q) ≡ 1 = ap bit (ap (λ i. flagged w i) k ∙ (least_is w.pending p e).0) ∙ bit_one in
        let b = one_most d q callback p in omega arith
    by_place (inr k) = let b = other_point d q callback p k in omega arith
