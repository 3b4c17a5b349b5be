use Rattle.std.proofs.Common.{true, [], ◌∷◌, refl, arith}
use Rattle.flt_order.proofs.Ranks.{all_left, none_ranked, ranked_on, one_less}
use Rattle.flt_order.proofs.order.reduce.Goals as goal

pub loop-round-init : goal.loop-round-init
loop-round-init c = (
  none_ranked c.args.graph.now c.args.cert.now (true ∷ true ∷ true ∷ true ∷ true ∷ true ∷ true ∷ true ∷ []) all_left,
  refl,
)

pub loop-round-preserved : goal.loop-round-preserved
loop-round-preserved c =
    let found = c.in-Some.ensures.some in
    rw c.remove.ensures (
      ranked_on c.args.graph.now c.args.cert.now c.loop-round.left c.loop-round.round c.in-Some.lock found.0 found.1
          c.loop-round.invariant.0,
      omega (arith, one_less c.loop-round.left c.in-Some.lock found.0, c.loop-round.invariant.1),
    )
