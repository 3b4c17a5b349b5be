use Rattle.std.proofs.Common.{rules, ◌≡◌, ◌-◌, None, Some, true, ap, sym, ◌∙◌, refl, arith}
use Rattle.std.proofs.Math.ListN.{get_or}
use Rattle.flt_machine_store.specs.Holding.{at_place, is_of, standing}
use Rattle.flt_machine_store.proofs.Holding.{alone_less, count_less, none_stand, noted_less, noted_none, others_all}
use Rattle.flt_machine_store.proofs.Holding.{others_stand, same_place, stands, walk_others, within}
use Rattle.flt_machine_store.proofs.holders.Holders.remove.Goals as goal

pub returns-then-self : goal.returns-then-self
returns-then-self c =
    rw (← c.self.view_is) (ap standing c.keep_others.ensures ∙ walk_others c.args.activation c.self.inside.places.items)

pub returns-in_default : goal.returns-in_default
returns-in_default c =
    rw (← c.self.view_is) (sym (others_all c.self.inside.places.items c.self.inside.noted c.self.inside.count c.self.inside.alone
    c.args.activation (c.self.invariant c.if-self.false) (sym c.in_default.is ∙ c.get.ensures)))

pub index-requires : goal.index-requires
index-requires c =
    let so = stands c.self.inside.places.items c.self.inside.noted c.self.inside.count c.self.inside.alone c.args.activation c.in-Some.place
    (c.self.invariant c.if-self.false) (sym c.in-Some.is ∙ c.get.ensures) in
    let few = within c.self.inside.places.items c.args.activation c.in-Some.place so in
    search rules

pub returns-in_default-index : goal.returns-in_default-index
returns-in_default-index c =
    let so : is_of c.args.activation (at_place c.self.inside.places.items c.in-Some.place) ≡ true =
    stands c.self.inside.places.items c.self.inside.noted c.self.inside.count c.self.inside.alone c.args.activation c.in-Some.place
    (c.self.invariant c.if-self.false) (sym c.in-Some.is ∙ c.get.ensures) in
    let holds : at_place c.self.inside.places.items c.in-Some.place ≡ None = search rules in
    absurd (cc (ap (is_of c.args.activation) holds, so))

pub index_mut-requires : goal.index_mut-requires
index_mut-requires c =
    let so = stands c.self.inside.places.items c.self.inside.noted c.self.inside.count c.self.inside.alone c.args.activation c.in-Some.place
    (c.self.invariant c.if-self.false) (sym c.in-Some.is ∙ c.get.ensures) in
    let few = within c.self.inside.places.items c.args.activation c.in-Some.place so in
    search rules

pub overflow_sub-self : goal.overflow_sub-self
overflow_sub-self c =
    let so : is_of c.args.activation (at_place c.self.inside.places.items c.in-Some.place) ≡ true =
    stands c.self.inside.places.items c.self.inside.noted c.self.inside.count c.self.inside.alone c.args.activation c.in-Some.place
    (c.self.invariant c.if-self.false) (sym c.in-Some.is ∙ c.get.ensures) in
    let read : get_or c.self.inside.places.items c.in-Some.place (Some c.in-Some-index.holder) ≡ Some c.in-Some-index.holder =
    search rules in
    let holds = sym (same_place c.args.activation c.self.inside.places.items c.in-Some.place (Some c.in-Some-index.holder) so) ∙ read in
    let l = count_less c.self.inside.places.items c.self.inside.noted c.self.inside.noted c.self.inside.count c.self.inside.alone
    c.args.activation c.in-Some.place c.in-Some-index.holder (c.self.invariant c.if-self.false) (sym c.in-Some.is ∙ c.get.ensures) holds in
    omega (arith, l)

pub overflow_sub-self-2 : goal.overflow_sub-self-2
overflow_sub-self-2 c =
    let so : is_of c.args.activation (at_place c.self.inside.places.items c.in-Some.place) ≡ true =
    stands c.self.inside.places.items c.self.inside.noted c.self.inside.count c.self.inside.alone c.args.activation c.in-Some.place
    (c.self.invariant c.if-self.false) (sym c.in-Some.is ∙ c.get.ensures) in
    let read : get_or c.self.inside.places.items c.in-Some.place (Some c.in-Some-index.holder) ≡ Some c.in-Some-index.holder =
    search rules in
    let holds = sym (same_place c.args.activation c.self.inside.places.items c.in-Some.place (Some c.in-Some-index.holder) so) ∙ read in
    let l = alone_less c.self.inside.places.items c.self.inside.noted c.self.inside.noted c.self.inside.count c.self.inside.alone
    c.args.activation c.in-Some.place c.in-Some-index.holder (c.self.invariant c.if-self.false) (sym c.in-Some.is ∙ c.get.ensures) holds in
    omega (arith, l, c.alone.ensures)

pub invariant_of-self-then-self-eq0 : goal.invariant_of-self-then-self-eq0
invariant_of-self-then-self-eq0 c = λ f.
    let so : is_of c.args.activation (at_place c.self.inside.places.items c.in-Some.place) ≡ true =
    stands c.self.inside.places.items c.self.inside.noted c.self.inside.count c.self.inside.alone c.args.activation c.in-Some.place
    (c.self.invariant c.if-self.false) (sym c.in-Some.is ∙ c.get.ensures) in
    let read : get_or c.self.inside.places.items c.in-Some.place (Some c.in-Some-index.holder) ≡ Some c.in-Some-index.holder =
    search rules in
    let holds = sym (same_place c.args.activation c.self.inside.places.items c.in-Some.place (Some c.in-Some-index.holder) so) ∙ read in
    rw (c.clear.ensures.items) (noted_none c.self.inside.places.items c.self.inside.noted c.remove.new.self c.self.inside.count
    c.self.inside.alone c.args.activation c.in-Some.place c.in-Some-index.holder (c.self.invariant f)
    (sym c.in-Some.is ∙ c.get.ensures) holds
    c.remove.ensures.here c.remove.ensures.others _ _ refl (ap (λ (w : _). c.self.inside.alone - w) c.alone.ensures) c.if-self-eq0.true)

pub invariant_of-self-else-self-eq0 : goal.invariant_of-self-else-self-eq0
invariant_of-self-else-self-eq0 c = λ f.
    let so : is_of c.args.activation (at_place c.self.inside.places.items c.in-Some.place) ≡ true =
    stands c.self.inside.places.items c.self.inside.noted c.self.inside.count c.self.inside.alone c.args.activation c.in-Some.place
    (c.self.invariant c.if-self.false) (sym c.in-Some.is ∙ c.get.ensures) in
    let read : get_or c.self.inside.places.items c.in-Some.place (Some c.in-Some-index.holder) ≡ Some c.in-Some-index.holder =
    search rules in
    let holds = sym (same_place c.args.activation c.self.inside.places.items c.in-Some.place (Some c.in-Some-index.holder) so) ∙ read in
    noted_less c.self.inside.places.items c.self.inside.noted c.remove.new.self c.self.inside.count
    c.self.inside.alone c.args.activation c.in-Some.place c.in-Some-index.holder (c.self.invariant f)
    (sym c.in-Some.is ∙ c.get.ensures) holds
    c.remove.ensures.here c.remove.ensures.others _ _ refl (ap (λ (w : _). c.self.inside.alone - w) c.alone.ensures)

pub returns-then-self-eq0 : goal.returns-then-self-eq0
returns-then-self-eq0 c =
    let so : is_of c.args.activation (at_place c.self.inside.places.items c.in-Some.place) ≡ true =
    stands c.self.inside.places.items c.self.inside.noted c.self.inside.count c.self.inside.alone c.args.activation c.in-Some.place
    (c.self.invariant c.if-self.false) (sym c.in-Some.is ∙ c.get.ensures) in
    let read : get_or c.self.inside.places.items c.in-Some.place (Some c.in-Some-index.holder) ≡ Some c.in-Some-index.holder =
    search rules in
    let holds = sym (same_place c.args.activation c.self.inside.places.items c.in-Some.place (Some c.in-Some-index.holder) so) ∙ read in
    rw (c.clear.ensures.items, ← c.self.view_is) (sym (others_stand c.self.inside.places.items c.self.inside.noted c.remove.new.self
    c.self.inside.count c.self.inside.alone c.args.activation c.in-Some.place c.in-Some-index.holder (c.self.invariant c.if-self.false)
    (sym c.in-Some.is ∙ c.get.ensures) holds ∙ none_stand c.self.inside.places.items c.self.inside.noted c.remove.new.self
    c.self.inside.count c.self.inside.alone c.args.activation c.in-Some.place c.in-Some-index.holder (c.self.invariant c.if-self.false)
    (sym c.in-Some.is ∙ c.get.ensures) holds c.remove.ensures.here c.remove.ensures.others _ refl c.if-self-eq0.true))

pub returns-else-self-eq0 : goal.returns-else-self-eq0
returns-else-self-eq0 c =
    let so : is_of c.args.activation (at_place c.self.inside.places.items c.in-Some.place) ≡ true =
    stands c.self.inside.places.items c.self.inside.noted c.self.inside.count c.self.inside.alone c.args.activation c.in-Some.place
    (c.self.invariant c.if-self.false) (sym c.in-Some.is ∙ c.get.ensures) in
    let read : get_or c.self.inside.places.items c.in-Some.place (Some c.in-Some-index.holder) ≡ Some c.in-Some-index.holder =
    search rules in
    let holds = sym (same_place c.args.activation c.self.inside.places.items c.in-Some.place (Some c.in-Some-index.holder) so) ∙ read in
    rw (← c.self.view_is) (sym (others_stand c.self.inside.places.items c.self.inside.noted c.remove.new.self
    c.self.inside.count c.self.inside.alone c.args.activation c.in-Some.place c.in-Some-index.holder (c.self.invariant c.if-self.false)
    (sym c.in-Some.is ∙ c.get.ensures) holds))
