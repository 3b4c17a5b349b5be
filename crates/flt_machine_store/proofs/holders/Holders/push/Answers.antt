use Rattle.std.proofs.Common.{rules, ◌≡◌, ◌++◌, ◌∷◌, [], None, Some, length, ap, sym, ◌∙◌, arith}
use Rattle.flt_machine_store.specs.Holding.{place_in}
use Rattle.flt_machine_store.proofs.Holding.{fits_more, light_one, noted_more, standing_more}
use Rattle.flt_machine_store.proofs.holders.Holders.push.Goals as goal

pub returns-in_default-clause-ok : goal.returns-in_default-clause-ok
returns-in_default-clause-ok c =
    let items : c.push_reserved.new.self.items ≡ c.self.inside.places.items ++ Some c.args.holder ∷ [] = search rules in
    rw (items, ← c.self.view_is) (standing_more c.self.inside.places.items c.args.holder)

pub overflow_add-self : goal.overflow_add-self
overflow_add-self c =
    let few = fits_more c.self.inside.places.items c.self.inside.noted c.self.inside.count c.self.inside.alone
    (c.self.invariant c.in-false-None.is-0) in
    let items : length c.reserve.new.list.items ≡ length c.self.inside.places.items = ap length c.reserve.ensures.items in
    omega (arith, few.0, items, c.reserve.new.list.ok.0, c.reserve.new.list.small)

pub overflow_add-self-2 : goal.overflow_add-self-2
overflow_add-self-2 c =
    let few = fits_more c.self.inside.places.items c.self.inside.noted c.self.inside.count c.self.inside.alone
    (c.self.invariant c.in-false-None.is-0) in
    let items : length c.reserve.new.list.items ≡ length c.self.inside.places.items = ap length c.reserve.ensures.items in
    let light = light_one c.args.holder.access in
    omega (arith, few.1, items, c.alone.ensures, light, c.reserve.new.list.ok.0, c.reserve.new.list.small)

pub invariant_of-self-2 : goal.invariant_of-self-2
invariant_of-self-2 c = λ f.
    let items : c.push_reserved-2.new.self.items ≡ c.self.inside.places.items ++ Some c.args.holder ∷ [] = search rules in
    let place : c.len-place.result ≡ length c.self.inside.places.items = search rules in
    let new : None ≡ place_in c.self.inside.noted c.args.holder.activation =
    sym c.in-false-None.is-1 ∙ c.get.ensures in
    let here : place_in c.insert.new.self c.args.holder.activation ≡ Some (length c.self.inside.places.items) =
    c.in_ok-insert.ensures.here ∙ ap Some place in
    rw (items, c.alone.ensures) (noted_more c.self.inside.places.items c.self.inside.noted c.insert.new.self c.self.inside.count
    c.self.inside.alone c.args.holder (c.self.invariant f) new here c.in_ok-insert.ensures.others)

pub returns-clause-ok : goal.returns-clause-ok
returns-clause-ok c =
    let items : c.push_reserved-2.new.self.items ≡ c.self.inside.places.items ++ Some c.args.holder ∷ [] = search rules in
    rw (items, ← c.self.view_is) (standing_more c.self.inside.places.items c.args.holder)
