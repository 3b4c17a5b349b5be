use Rattle.std.proofs.Common.{◌≤◌, List, length, sym, subst, arith}
use Rattle.flt_check.specs.Ready.{AreGiven, FaultlessBefore, IsFirstBroken, IsOtherPoint}
use Rattle.flt_cert.specs.Thin.{Slot}
use Rattle.flt_check.proofs.Thin.Accepted.{few_slots, agree_more, given_in, none_more, kept_told, point_told}
use Rattle.flt_check.proofs.thin_checker.first_fault.Goals as goal

pub other_point-requires : goal.other_point-requires
other_point-requires c =
    subst (λ (s : List Slot). length s ≤ 512) (sym c.slots.ensures)
    (few_slots c.args.thin.now c.marks.callback c.callbacks-callbacks.ensures.thin)

pub returns-in-Some-other_point-clause-refused : goal.returns-in-Some-other_point-clause-refused
returns-in-Some-other_point-clause-refused c =
    kept_told c.args.graph.now c.args.thin.now c.marks.callback c.in-Some-other_point.point c.refusal-in-Some-other_point.result
    c.refusal-in-Some-other_point.ensures c.marks.invariant.counts (omega arith) c.marks.invariant.before
    (subst (λ (s : List Slot). IsOtherPoint c.args.graph.now c.marks.callback s c.in-Some-other_point.point) c.slots.ensures
    c.in-Some-other_point.ensures.some)

pub marks-preserved : goal.marks-preserved
marks-preserved c = record {
  counts = c.marks.invariant.counts;
  before = agree_more c.args.graph.now c.args.thin.now c.marks.callback c.marks.invariant.counts (omega arith) c.marks.invariant.before
      (subst (λ (s : List Slot). AreGiven c.args.graph.now c.marks.callback s) c.slots.ensures c.in_default-other_point.ensures.none);
}

pub callback_fault-requires-clause-given : goal.callback_fault-requires-clause-given
callback_fault-requires-clause-given c =
    subst (λ (s : List Slot). AreGiven c.args.graph.now c.points.callback s) (sym c.slots-in-points.ensures)
    (given_in c.args.graph.now c.args.thin.now c.points.callback c.points.invariant.counts (omega arith) c.points.invariant.kept)

pub callback_fault-requires-clause-few : goal.callback_fault-requires-clause-few
callback_fault-requires-clause-few c =
    subst (λ (s : List Slot). length s ≤ 512) (sym c.slots-in-points.ensures)
    (few_slots c.args.thin.now c.points.callback c.callbacks-callbacks.ensures.thin)

pub returns-in-Some-callback_fault-clause-refused :
    goal.returns-in-Some-callback_fault-clause-refused
returns-in-Some-callback_fault-clause-refused c =
    point_told c.args.graph.now c.args.thin.now c.points.callback c.in-Some-callback_fault.point c.in-Some-callback_fault.rule
    c.refusal-in-Some-callback_fault.result c.refusal-in-Some-callback_fault.ensures c.points.invariant.counts (omega arith)
    c.points.invariant.kept c.points.invariant.before
    (subst (λ (s : List Slot).
    IsFirstBroken c.args.graph.now c.points.callback s c.in-Some-callback_fault.point c.in-Some-callback_fault.rule)
    c.slots-in-points.ensures c.in-Some-callback_fault.ensures.some)

pub points-preserved : goal.points-preserved
points-preserved c = record {
  counts = c.points.invariant.counts;
  kept = c.points.invariant.kept;
  before = none_more c.args.graph.now c.args.thin.now c.points.callback c.points.invariant.counts (omega arith) c.points.invariant.before
      (subst (λ (s : List Slot). FaultlessBefore c.args.graph.now c.points.callback s (length s)) c.slots-in-points.ensures
      c.in_default-callback_fault.ensures.none);
}
