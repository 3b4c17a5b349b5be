use Rattle.std.proofs.Common.{rules}
use Rattle.flt_model.specs.Steps.{Make}
use Rattle.flt_replay.proofs.Judging.Courses.{StayExclusive, in_other_words, made, not_made}
use Rattle.flt_replay.proofs.monitor.Monitor.make.Goals as goal

pub returns-then-not-branch : goal.returns-then-not-branch
returns-then-not-branch c m at =
    not_made _ m c.args.next c.args.self.now c.args.self.now c.make.new.world c.make.new.events.items c.in_ok-make.field-0 at
    (rw c.clear.ensures.items at c.in_ok-make.ensures) (search rules)

pub returns : goal.returns
returns c =
    let stay : StayExclusive = record { opening = c.locks_stay_exclusive.ensures.opening; steps = c.locks_stay_exclusive.ensures.steps } in
    in_other_words _ _ c.judged.result
    (λ course judges m at.
    made c.args.stack.now m c.args.next c.args.self.now c.judged.new.self c.make.new.world c.make.new.events.items
    c.in_ok-make.field-0 course stay at
    (rw c.clear.ensures.items at c.in_ok-make.ensures) c.if-not-branch.false
    (λ s follows rule. judges c.args.stack.now m (Make c.args.next) s at.counts follows rule))
    c.judged.ensures
