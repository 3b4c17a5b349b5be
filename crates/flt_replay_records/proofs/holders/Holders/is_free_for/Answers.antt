use Rattle.std.proofs.Common.{◌∙◌}
use Rattle.flt_rules.specs.declared.held.Access.TheVariants.{Exclusive, Shared}
use Rattle.flt_replay_records.specs.Slots.{left}
use Rattle.flt_replay_records.proofs.Slots.{walked_free, held_alone, not_held_alone, held_by_none}
use Rattle.flt_replay_records.proofs.holders.Holders.is_free_for.Goals as goal

pub returns-then-self : goal.returns-then-self
returns-then-self c =
    let all = rw c.as_slice.ensures.value at c.may_join_all.ensures in
    rw (← c.self.view_is) (all ∙ walked_free c.args.activation c.args.access c.self.inside.slots.items)

pub returns-then-not-has_no_other : goal.returns-then-not-has_no_other
returns-then-not-has_no_other c =
    let slots = c.self.inside.slots.items in
    let are = c.self.invariant c.if-self.false in
    rw (← c.self.view_is) (held_alone c.args.activation c.args.access (left slots) c.has_no_other.result
    (c.has_no_other.ensures Exclusive slots are.exclusive) c.if-not-has_no_other.true)

pub returns-in-Exclusive : goal.returns-in-Exclusive
returns-in-Exclusive c =
    let slots = c.self.inside.slots.items in
    let are = c.self.invariant c.if-self.false in
    rw (c.in-Exclusive.is, ← c.self.view_is) (held_by_none c.args.activation (left slots) c.has_no_other.result
    c.has_no_other-in-Exclusive.result
    (c.has_no_other.ensures Exclusive slots are.exclusive) c.if-not-has_no_other.false
    (c.has_no_other-in-Exclusive.ensures Shared slots are.shared))

pub returns-in-Shared : goal.returns-in-Shared
returns-in-Shared c =
    let slots = c.self.inside.slots.items in
    let are = c.self.invariant c.if-self.false in
    rw (c.in-Shared.is, ← c.self.view_is) (not_held_alone c.args.activation (left slots) c.has_no_other.result
    (c.has_no_other.ensures Exclusive slots are.exclusive) c.if-not-has_no_other.false)
