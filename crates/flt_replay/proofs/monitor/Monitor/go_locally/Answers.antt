use Rattle.flt_replay.proofs.Judging.Courses.{StayExclusive, in_other_words, all_unseen}
use Rattle.flt_replay.proofs.Machine.Locals.{AreQuiet}
use Rattle.flt_replay.proofs.monitor.Monitor.go_locally.Goals as goal

pub returns : goal.returns
returns c =
    let quiet : AreQuiet = record {
      events = c.local_steps_are_quiet.ensures.events;
      alone = c.local_steps_are_quiet.ensures.alone;
      breaks = c.local_steps_are_quiet.ensures.breaks;
    } in
    let stay : StayExclusive = record { opening = c.locks_stay_exclusive.ensures.opening; steps = c.locks_stay_exclusive.ensures.steps } in
    in_other_words _ _ c.steps_unseen.result
    (λ all made p m xs at. all_unseen p c.args.a xs quiet stay c.args.steps all c.steps_unseen.new.world m c.args.self.now at made)
    c.steps_unseen.ensures
