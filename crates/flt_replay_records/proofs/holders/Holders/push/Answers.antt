use Rattle.std.proofs.Common.{◌∙◌, sym}
use Rattle.std.proofs.lemmas.Bool.{or_parts}
use Rattle.flt_rules.specs.declared.held.Access.TheVariants.{Exclusive, Shared}
use Rattle.flt_replay_records.proofs.Slots.{exclusive_kind, shared_kind}
use Rattle.flt_replay_records.proofs.holders.Holders.push.Goals as goal

pub invariant_of-self-then-is_same : goal.invariant_of-self-then-is_same
invariant_of-self-then-is_same c h =
    let parts = or_parts _ _ h in
    let are = c.self.invariant parts.0 in
    let kind = exclusive_kind c.args.holder.access
    (sym c.is_same.ensures ∙ c.if-is_same.true) in
    record {
      exclusive = c.in_ok-self-inside.ensures.places parts.1 Exclusive kind.0 are.exclusive;
      shared = c.in_ok-self-inside.ensures.others Shared c.self.inside.shared.entries kind.1 are.shared;
    }

pub invariant_of-self-2 : goal.invariant_of-self-2
invariant_of-self-2 c h =
    let parts = or_parts _ _ h in
    let are = c.self.invariant parts.0 in
    let kind = shared_kind c.args.holder.access
    (sym c.is_same.ensures ∙ c.if-is_same.false) in
    record {
      exclusive = c.in_ok-self-inside-2.ensures.others Exclusive c.self.inside.exclusive.entries kind.1 are.exclusive;
      shared = c.in_ok-self-inside-2.ensures.places parts.1 Shared kind.0 are.shared;
    }
