use Rattle.std.proofs.Common.{refl}
use Rattle.flt_rules.specs.declared.held.Access.TheVariants.{Exclusive, Shared}
use Rattle.flt_replay_records.proofs.Slots.{walked_gone, all_gone}
use Rattle.flt_replay_records.proofs.holders.Holders.remove.Goals as goal

pub returns-then-self : goal.returns-then-self
returns-then-self c = rw (← c.self.view_is, c.drop_all.ensures) (walked_gone c.args.activation c.self.inside.slots.items)

pub invariant_of-self-2 : goal.invariant_of-self-2
invariant_of-self-2 c h =
    let are = c.self.invariant h in
    let shared = c.take_out.ensures.others Exclusive Shared c.self.inside.shared.entries are.exclusive refl are.shared in
    record {
      exclusive = c.trim.ensures.places Exclusive c.take_out.new.places.entries
          (c.take_out-2.ensures.others Shared Exclusive c.take_out.new.places.entries shared refl
          (c.take_out.ensures.places Exclusive are.exclusive));
      shared = c.trim.ensures.places Shared c.take_out-2.new.places.entries (c.take_out-2.ensures.places Shared shared);
    }

pub returns : goal.returns
returns c =
    let are = c.self.invariant c.if-self.false in
    let shared = c.take_out.ensures.others Exclusive Shared c.self.inside.shared.entries are.exclusive refl are.shared in
    rw (← c.self.view_is)
    (all_gone c.args.activation c.self.inside.slots.items c.take_out.new.slots.items c.take_out-2.new.slots.items c.trim.new.slots.items
    (c.take_out.ensures.left Exclusive are.exclusive) (c.take_out-2.ensures.left Shared shared) c.trim.ensures.left)
