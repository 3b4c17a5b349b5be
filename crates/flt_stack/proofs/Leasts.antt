-- What a certificate shows of the order of locks each one below it shows; so the least one shows whether a filter takes them in an order.
-- Here g is a graph, k and l are certificates, a an acquisition.
use Rattle.std.proofs.Common.{◌≡◌, Bool, true, false, Option, Some, None, refl, sym, subst, ◌∙◌}
use Rattle.std.specs.Prelude.{◌↔◌, not, IsTrue}
use Rattle.flt_rules.specs.Held.{holds_lock}
use Rattle.flt_tree.specs.WellFormed.{IsWellFormed}
use Rattle.flt_tree.specs.declared.filter.Filter.{Filter}
use Rattle.flt_graph.specs.Lowering.{IsLowered}
use Rattle.flt_graph.specs.declared.graph.Graph.{Graph}
use Rattle.flt_abs.specs.State.{State, IsBelow, is_below}
use Rattle.flt_analyse.specs.Least.{IsLeast}
use Rattle.flt_cert.specs.Format.{Certificate}
use Rattle.flt_check.specs.Covering.{Covers, IsCertificateBelow, IsPointBelow, state_at}
use Rattle.flt_order.specs.Order.{IsAcquired, TakesInOrder}
use Rattle.flt_order.specs.declared.order.Acquisition.{Acquisition}
use Rattle.flt_sound.specs.Progress.{IsOrderly}
use Rattle.flt_stack.specs.Ordering.{IsOrdered}

-- states in their order hold the same locks: a law of flt_abs
abbrev pub Decided : Type 0
Decided = (x y : State) → IsTrue (is_below x y) → IsBelow x y

-- ---- certificates

-- what is acquired by a certificate is acquired by each one above it
acquired_above : Decided → (g : Graph) (k l : Certificate) → IsCertificateBelow k l → (a : Acquisition) → IsAcquired g k a →
    IsAcquired g l a
acquired_above decided g k l below a q =
    by (state_at l a.callback a.point) refl
    (subst (λ (o : Option State). IsPointBelow o (state_at l a.callback a.point)) q.reached (below a.callback a.point))
  where
    by : (o : Option State) → state_at l a.callback a.point ≡ o → IsPointBelow (Some q.state) o → IsAcquired g l a
    by None e h = absurd h
    by (Some y) e h = record {
      state = y;
      reached = e;
      line = q.line;
      takes = q.takes;
      holds = subst (λ locks. holds_lock a.holding locks ≡ true) (decided q.state y h).locks q.holds;
    }

-- so an order by a certificate is one by each below it
order_below : Decided → (g : Graph) (k l : Certificate) → IsCertificateBelow k l → TakesInOrder g l → TakesInOrder g k
order_below decided g k l below o = record {
  rank = o.rank;
  ordered = λ a q. o.ordered a (acquired_above decided g k l below a q);
}

-- the least certificate shows an order exactly where some certificate does
pub least_shows : Decided → (g : Graph) (k : Certificate) → Covers g k → IsLeast g k → (TakesInOrder g k ↔ IsOrdered g)
least_shows decided g k covers least = (
  λ order. record { certificate = k; covers = covers; ordered = order },
  λ some. order_below decided g k some.certificate (least some.certificate some.covers) some.ordered,
)

-- whether there is none, by what `is_none` answers
pub told_by : (some none : Bool) → some ≡ not none → (P : Type 0) → ((some ≡ false) ↔ P) → (IsTrue none ↔ P)
told_by some true e P k = (λ yes. k.0 e, λ p. refl)
told_by some false e P k = (λ yes. absurd (cc), λ p. (let bad : true ≡ false = sym e ∙ k.1 p in absurd (cc)))

-- ---- filters

-- a filter takes its locks in an order exactly where its graph says so
pub orderly_by : ((f : Filter) (g h : Graph) → IsWellFormed f → IsLowered f g → IsLowered f h → g ≡ h) → (f : Filter) (g : Graph) →
    IsWellFormed f → IsLowered f g → (IsOrdered g ↔ IsOrderly f)
orderly_by one f g fine lowered = (
  λ some. record {
    accepted = record {
      graph = g;
      cert = some.certificate;
      well_formed = fine;
      lowered = lowered;
      covers = some.covers;
    };
    ordered = some.ordered;
  },
  λ f_is. subst IsOrdered (one f f_is.accepted.graph g fine f_is.accepted.lowered lowered)
      (record { certificate = f_is.accepted.cert; covers = f_is.accepted.covers; ordered = f_is.ordered }),
)
