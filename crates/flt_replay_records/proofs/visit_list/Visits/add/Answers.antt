use Rattle.std.proofs.Common.{◌≡◌, length, arith}
use Rattle.std.proofs.lemmas.Grind.{common_steps}
use Rattle.flt_model.specs.World.{Visit}
use Rattle.flt_replay_records.proofs.Counting.{back}
use Rattle.flt_replay_records.proofs.VisitLinks.{added, same_counts}
use Rattle.flt_replay_records.proofs.visit_list.Visits.add.Goals as goal

pub invariant_of-self-in-Ok : goal.invariant_of-self-in-Ok
invariant_of-self-in-Ok c =
    let visit : Visit = record {
      operation = c.visit.inside.operation;
      filter = c.visit.inside.filter;
      stage = c.visit.inside.stage;
      draining = c.visit.inside.draining;
    } in
    let number : c.len-number.result ≡ length c.self.inside.visits.items = grind (arith, common_steps) in
    let is = added c.self.inside.visits.items c.self.inside.settled.items c.self.inside.before.items c.self.inside.last c.set.new.self
    c.self.inside.unsettled c.add.new.self visit c.self.invariant c.in_ok-add.ensures.ok (λ o. rw number at (c.in-Ok.ensures.ok o)) in
    rw (
      c.push_reserved.ensures.items,
      c.push_reserved-in-Ok.ensures.items,
      c.push_reserved-in-Ok-2.ensures.items,
      c.in_ok-reserve.ensures.items,
      c.in_ok-reserve-2.ensures.items,
      c.in_ok-reserve-3.ensures.items,
      c.in_ok-before.ensures,
      c.get.ensures,
      ← c.visit.view_is,
    ) is

pub invariant_of-self-in-Err : goal.invariant_of-self-in-Err
invariant_of-self-in-Err c =
    let is = same_counts c.self.inside.visits.items c.self.inside.settled.items c.self.inside.before.items c.self.inside.last
    c.self.inside.unsettled c.take.new.self c.self.invariant
    (back c.self.inside.unsettled c.add.new.self c.take.new.self c.visit.inside.operation c.in_ok-add.ensures.ok c.take.ensures) in
    rw (c.in_ok-reserve.ensures.items, c.in_ok-reserve-2.ensures.items, c.in_ok-reserve-3.ensures.items, c.in-Err.ensures.err) is
