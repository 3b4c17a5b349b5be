use Rattle.std.proofs.Common.{◌≡◌, Bool, true, false, not, ◌&&◌, cond, refl, ap, ◌∙◌}
use Rattle.std.specs.Ordering.{is_eq}
use Rattle.pair_set.specs.Pairs.{pair_cmp, has}
use Rattle.pair_set.proofs.PairOrder.{cmp_is}
use Rattle.pair_set.proofs.pairs.PairSet.remove.Goals as goal

neither : (x y : Bool) → cond x false y ≡ (not x && y)
neither true y = refl
neither false y = refl

pub returns : goal.returns
unfolding has
returns c = λ f o.
    let was = has c.self.inside.set f o in
    rw (← c.self.view_is)
    (c.remove.ensures.updates.0 (f, o)
    ∙ neither (is_eq (pair_cmp (c.args.first, c.args.second) (f, o))) was
    ∙ ap (λ (b : Bool). not b && was) (cmp_is c.args.first c.args.second f o))
