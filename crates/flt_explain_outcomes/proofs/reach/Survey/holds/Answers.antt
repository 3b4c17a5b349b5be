use Rattle.std.proofs.Common.{refl, sym, subst, arith, inl, inr}
use Rattle.std.proofs.lemmas.Bool.{cases_eq}
use Rattle.flt_explain_outcomes.specs.Reach.{HoldsIn}
use Rattle.flt_explain_outcomes.proofs.reach.Survey.holds.Goals as goal

pub loop-callback-preserved : goal.loop-callback-preserved
loop-callback-preserved c = λ n below. elim (cases_eq n c.loop-callback.callback) [
  | inl same ↦ subst
      (λ k. HoldsIn c.args.self.now.graph.now c.args.self.now.unset c.args.self.now.variable c.args.rows.now k)
      (sym same) (c.if-not-holds_in.ensures refl)
  | inr ne ↦ c.loop-callback.invariant n (omega (arith, below, ne))
]
