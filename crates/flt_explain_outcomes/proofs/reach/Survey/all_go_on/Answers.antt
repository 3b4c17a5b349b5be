use Rattle.std.proofs.Common.{refl, sym, subst, arith, inl, inr}
use Rattle.std.proofs.lemmas.Bool.{cases_eq}
use Rattle.flt_explain_outcomes.specs.Reach.{GoesOn}
use Rattle.flt_explain_outcomes.proofs.reach.Survey.all_go_on.Goals as goal

pub loop-point-preserved : goal.loop-point-preserved
loop-point-preserved c = λ n below. elim (cases_eq n c.loop-point.point) [
  | inl same ↦ subst
      (λ k. GoesOn c.args.self.now.graph.now c.args.self.now.unset c.args.self.now.variable c.args.rows.now c.args.callback k)
      (sym same) (c.if-not-goes_on.ensures refl)
  | inr ne ↦ c.loop-point.invariant n (omega (arith, below, ne))
]
