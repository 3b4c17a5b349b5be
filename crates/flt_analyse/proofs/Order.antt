-- What the order of states is known to be, by the clauses of the crate of states.
use Rattle.std.proofs.Common.{◌≡◌, ℕ}
use Rattle.std.specs.Prelude.{IsTrue}
use Rattle.flt_graph.specs.declared.graph.Graph.{Graph}
use Rattle.flt_abs.specs.State.{State, is_below, is_proper, join_of}
use Rattle.flt_abs.specs.Step.{transfer, IsOutcomeBelow}

pub record Laws : Type 0 where
  pub reflexive : (a : State) → IsTrue (is_below a a)
  pub transitive : (a b c : State) → IsTrue (is_below a b) → IsTrue (is_below b c) → IsTrue (is_below a c)
  pub left : (a b : State) → IsTrue (is_proper a) → IsTrue (is_proper b) → IsTrue (is_below a (join_of a b))
  pub right : (a b : State) → IsTrue (is_proper a) → IsTrue (is_proper b) → a.locks ≡ b.locks → IsTrue (is_below b (join_of a b))
  pub least : (a b c : State) → IsTrue (is_below a c) → IsTrue (is_below b c) → IsTrue (is_below (join_of a b) c)
  pub proper : (a b : State) → IsTrue (is_proper a) → IsTrue (is_proper (join_of a b))
  pub monotone : (g : Graph) (callback point : ℕ) (x y : State) → IsTrue (is_proper x) → IsTrue (is_below x y) →
      IsOutcomeBelow (transfer g callback point x) (transfer g callback point y)
