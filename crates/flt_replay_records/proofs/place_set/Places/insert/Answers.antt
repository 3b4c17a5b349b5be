use Rattle.std.proofs.Common.{◌≡◌, Bool, true, false, ◌||◌, cond, refl, ap, ◌∙◌}
use Rattle.std.specs.Ordering.{is_eq}
use Rattle.flt_replay_records.specs.Places.{place_cmp, has}
use Rattle.flt_replay_records.proofs.PlaceSets.PlaceOrder.{cmp_is}
use Rattle.flt_replay_records.proofs.place_set.Places.insert.Goals as goal

either : (x y : Bool) → cond x true y ≡ (x || y)
either true y = refl
either false y = refl

pub returns-in-Ok-clause-ok : goal.returns-in-Ok-clause-ok
unfolding has
returns-in-Ok-clause-ok c = λ x y z.
    let was = has c.args.self.now.set x y z in
    c.in-Ok.ensures.updates.0 (x, y, z)
    ∙ either (is_eq (place_cmp (c.args.i, c.args.j, c.args.k) (x, y, z))) was
    ∙ ap (λ (b : Bool). b || was) (cmp_is c.args.i c.args.j c.args.k x y z)
