use Rattle.std.proofs.Common.{◌≡◌, Bool, true, false, not, ◌&&◌, cond, refl, ap, ◌∙◌}
use Rattle.std.specs.Ordering.{is_eq}
use Rattle.flt_replay_records.specs.Places.{place_cmp, has}
use Rattle.flt_replay_records.proofs.PlaceSets.PlaceOrder.{cmp_is}
use Rattle.flt_replay_records.proofs.place_set.Places.remove.Goals as goal

neither : (x y : Bool) → cond x false y ≡ (not x && y)
neither true y = refl
neither false y = refl

pub returns : goal.returns
unfolding has
returns c = λ x y z.
    let was = has c.args.self.now.set x y z in
    c.remove.ensures.updates.0 (x, y, z)
    ∙ neither (is_eq (place_cmp (c.args.i, c.args.j, c.args.k) (x, y, z))) was
    ∙ ap (λ (b : Bool). not b && was) (cmp_is c.args.i c.args.j c.args.k x y z)
