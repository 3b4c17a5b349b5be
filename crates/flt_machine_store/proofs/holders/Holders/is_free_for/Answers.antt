use Rattle.std.proofs.Common.{rules, ◌≡◌, None, Some, true, ap, sym, ◌∙◌}
use Rattle.std.proofs.Math.ListN.{get_or}
use Rattle.std.specs.List.{list_all}
use Rattle.flt_machine_store.specs.Holding.{at_place, is_free, is_of}
use Rattle.flt_machine_store.proofs.Holding.{free_new_alone, free_new_shared, free_own_alone, free_own_shared}
use Rattle.flt_machine_store.proofs.Holding.{same_place, stands, stands_so, walk_free, within}
use Rattle.flt_machine_store.proofs.holders.Holders.is_free_for.Goals as goal

pub returns-then-self : goal.returns-then-self
returns-then-self c =
    rw (← c.self.view_is) (c.let_all.ensures ∙ ap (list_all (is_free c.args.activation c.args.access)) c.as_slice.ensures.value ∙
    walk_free c.args.activation c.args.access c.self.inside.places.items)

pub returns-in-Shared : goal.returns-in-Shared
returns-in-Shared c =
    rw (c.in-Shared.is, ← c.self.view_is) (free_new_shared c.self.inside.places.items c.self.inside.noted c.self.inside.count
    c.self.inside.alone c.args.activation (c.self.invariant c.if-self.false) (sym c.in_default.is ∙ c.get.ensures))

pub returns-in-Exclusive : goal.returns-in-Exclusive
returns-in-Exclusive c =
    rw (c.in-Exclusive.is, ← c.self.view_is) (free_new_alone c.self.inside.places.items c.self.inside.noted c.self.inside.count
    c.self.inside.alone c.args.activation (c.self.invariant c.if-self.false) (sym c.in_default.is ∙ c.get.ensures))

pub index-requires : goal.index-requires
index-requires c =
    let so = stands c.self.inside.places.items c.self.inside.noted c.self.inside.count c.self.inside.alone c.args.activation c.in-Some.place
    (c.self.invariant c.if-self.false) (sym c.in-Some.is ∙ c.get.ensures) in
    let few = within c.self.inside.places.items c.args.activation c.in-Some.place so in
    search rules

pub returns-in-Shared-Some : goal.returns-in-Shared-Some
returns-in-Shared-Some c =
    let so : is_of c.args.activation (at_place c.self.inside.places.items c.in-Some.place) ≡ true =
    stands c.self.inside.places.items c.self.inside.noted c.self.inside.count c.self.inside.alone c.args.activation c.in-Some.place
    (c.self.invariant c.if-self.false) (sym c.in-Some.is ∙ c.get.ensures) in
    let read : get_or c.self.inside.places.items c.in-Some.place (Some c.in-Shared-Some.holder) ≡ Some c.in-Shared-Some.holder =
    search rules in
    let holds = sym (same_place c.args.activation c.self.inside.places.items c.in-Some.place (Some c.in-Shared-Some.holder) so) ∙ read in
    rw (c.in-Shared-Some.is-0, c.alone.ensures, ← c.self.view_is) (free_own_shared c.self.inside.places.items c.self.inside.noted
    c.self.inside.noted c.self.inside.count c.self.inside.alone c.args.activation c.in-Some.place c.in-Shared-Some.holder
    (c.self.invariant c.if-self.false) (sym c.in-Some.is ∙ c.get.ensures) holds)

pub returns-in-Shared-None : goal.returns-in-Shared-None
returns-in-Shared-None c =
    let so : is_of c.args.activation (at_place c.self.inside.places.items c.in-Some.place) ≡ true =
    stands c.self.inside.places.items c.self.inside.noted c.self.inside.count c.self.inside.alone c.args.activation c.in-Some.place
    (c.self.invariant c.if-self.false) (sym c.in-Some.is ∙ c.get.ensures) in
    let holds : at_place c.self.inside.places.items c.in-Some.place ≡ None = search rules in
    absurd (cc (ap (is_of c.args.activation) holds, so))

pub returns-in-Exclusive-default : goal.returns-in-Exclusive-default
returns-in-Exclusive-default c =
    let so : is_of c.args.activation (at_place c.self.inside.places.items c.in-Some.place) ≡ true =
    stands c.self.inside.places.items c.self.inside.noted c.self.inside.count c.self.inside.alone c.args.activation c.in-Some.place
    (c.self.invariant c.if-self.false) (sym c.in-Some.is ∙ c.get.ensures) in
    let there = stands_so c.args.activation (at_place c.self.inside.places.items c.in-Some.place) so in
    rw (c.in-Exclusive-default.is-0, ← c.self.view_is) (free_own_alone c.self.inside.places.items c.self.inside.noted c.self.inside.noted
    c.self.inside.count c.self.inside.alone c.args.activation c.in-Some.place there.0 (c.self.invariant c.if-self.false)
    (sym c.in-Some.is ∙ c.get.ensures) there.1)
