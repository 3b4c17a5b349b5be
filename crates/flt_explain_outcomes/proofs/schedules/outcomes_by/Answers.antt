use Rattle.std.proofs.Common.{rules, get_or, refl}
use Rattle.flt_explain_outcomes.specs.Schedules.{IsOutcome}
use Rattle.flt_explain_outcomes.proofs.Answers.{nothing, one_more}
use Rattle.flt_explain_outcomes.proofs.schedules.outcomes_by.Goals as goal

pub loop-place-preserved : goal.loop-place-preserved
loop-place-preserved c =
    one_more (IsOutcome c.args.is_stack c.args.trees.now c.args.suspects.now.filter c.args.suspects.now.outlook.now)
    c.args.suspects.now.found.now c.loop-place.all.items
    c.push.new.self.items c.loop-place.place (get_or c.args.suspects.now.found.now c.loop-place.place nothing)
    (record { number = (get_or c.args.suspects.now.found.now c.loop-place.place nothing).number; scheduled = c.in_ok-scheduled.scheduled })
    c.loop-place-test.true (search rules) c.loop-place.invariant
    (record { number = refl; scheduled = c.in_ok-scheduled.ensures }) c.in_ok-push.ensures.items
