use Rattle.std.proofs.Common.{refl, sym, subst, arith, inl, inr}
use Rattle.std.proofs.lemmas.Bool.{cases_eq}
use Rattle.flt_explain_outcomes.specs.Reach.{StartsOne}
use Rattle.flt_explain_outcomes.proofs.reach.Survey.starts_on.Goals as goal

pub loop-number-preserved : goal.loop-number-preserved
loop-number-preserved c = λ n below. elim (cases_eq n c.loop-number.number) [
  | inl same ↦ subst
      (λ k. StartsOne c.args.self.now.graph.now c.args.self.now.unset c.args.self.now.variable c.args.rows.now
      c.args.callback c.args.point k) (sym same) (c.if-not-starts_one.ensures refl)
  | inr ne ↦ c.loop-number.invariant n (omega (arith, below, ne))
]
