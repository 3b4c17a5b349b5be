use Rattle.std.proofs.Common.{sym}
use Rattle.flt_replay.proofs.Judging.Courses.{StayExclusive, begins}
use Rattle.flt_replay.proofs.monitor.opening.Goals as goal

pub returns : goal.returns
returns c =
    let p = c.args.stack.now in
    let stay : StayExclusive = record {
      opening = c.locks_stay_exclusive.ensures.opening;
      steps = c.locks_stay_exclusive.ensures.steps;
    } in
    begins p (record { world = c.in_ok-opening.field-0; ledger = c.new.result }) stay (c.in_ok-opening.ensures p (sym c.len.ensures))
    (c.new.ensures p)
