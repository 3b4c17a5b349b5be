use Rattle.std.proofs.Common.{◌≡◌, Bool, true, false, ◌||◌, cond, refl, ap, ◌∙◌}
use Rattle.std.specs.Ordering.{is_eq}
use Rattle.pair_set.specs.Pairs.{pair_cmp, has}
use Rattle.pair_set.proofs.PairOrder.{cmp_is}
use Rattle.pair_set.proofs.pairs.PairSet.insert.Goals as goal

either : (x y : Bool) → cond x true y ≡ (x || y)
either true y = refl
either false y = refl

pub returns-clause-ok : goal.returns-clause-ok
unfolding has
returns-clause-ok c = λ f o.
    let was = has c.self.inside.set f o in
    rw (← c.self.view_is)
    (c.in_ok-add.ensures.updates.0 (f, o)
    ∙ either (is_eq (pair_cmp (c.args.first, c.args.second) (f, o))) was
    ∙ ap (λ (b : Bool). b || was) (cmp_is c.args.first c.args.second f o))
