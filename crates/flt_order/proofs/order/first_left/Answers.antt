use Rattle.std.proofs.Common.{sym, ap, ◌∙◌, arith, inl, inr}
use Rattle.std.proofs.lemmas.Bool.{cases_eq}
use Rattle.flt_rules.specs.declared.held.HeldLock.{HeldLock}
use Rattle.flt_order.specs.Order.{is_left}
use Rattle.flt_order.proofs.Places.{same_there}
use Rattle.flt_order.proofs.order.first_left.Goals as goal

pub loop-held-preserved : goal.loop-held-preserved
loop-held-preserved c = λ i d below. elim (cases_eq i c.loop-held.held-index) [
  | inl same ↦
      let there = same_there c.args.locks.now c.loop-held.held-index d _ c.loop-held-test.true in
      rw same (ap (λ (h : HeldLock). is_left c.args.left.now h.lock) there ∙ (sym c.is_left.ensures ∙ c.if-is_left.false))
  | inr ne ↦ c.loop-held.invariant i d (omega (arith, below, ne))
]
