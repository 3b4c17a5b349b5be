use Rattle.std.proofs.Common.{◌≡◌, true, sym, subst, arith, inl, inr}
use Rattle.std.proofs.lemmas.Bool.{cases_eq}
use Rattle.flt_rules.specs.Call.{place_of}
use Rattle.flt_order.specs.Order.{IsTaken, is_left}
use Rattle.flt_order.proofs.Places.{found_is, is_found}
use Rattle.flt_order.proofs.order.next_free.Goals as goal
use Rattle.flt_order.proofs.order.next_free.Goals.{in-Some+else-is_next, in_default}

pub loop-place-preserved : goal.loop-place-preserved
loop-place-preserved c = λ l below among. elim (cases_eq (place_of l) c.loop-place.place) [
  | inl same ↦ elim c.match-at.branch [
    | in-Some+else-is_next w ↦
        let is = found_is c.at.result c.loop-place.place l w.in-Some.lock c.at.ensures w.in-Some.is same in
        subst (λ m. IsTaken c.args.graph.now c.args.cert.now c.args.left.now m) is
        (w.is_next.ensures.no_ w.if-is_next.false (subst (λ m. is_left c.args.left.now m ≡ true) (sym is) among))
    | in_default w ↦ absurd (is_found c.at.result c.loop-place.place l c.at.ensures w.in_default.is same)
  ]
  | inr ne ↦ c.loop-place.invariant l (omega (arith, below, ne)) among
]
