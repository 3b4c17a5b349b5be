use Rattle.std.proofs.Common.{rules, get_or}
use Rattle.flt_explain_outcomes.specs.Schedules.{IsGoalFor}
use Rattle.flt_explain_outcomes.proofs.Answers.{nothing, one_more}
use Rattle.flt_explain_outcomes.proofs.schedules.goals_for.Goals as goal

pub loop-place-preserved : goal.loop-place-preserved
loop-place-preserved c =
    one_more IsGoalFor c.args.found.now c.loop-place.goals.items c.push.new.self.items c.loop-place.place
    (get_or c.args.found.now c.loop-place.place nothing)
    c.goal_for-goal.result c.loop-place-test.true (search rules) c.loop-place.invariant c.goal_for-goal.ensures c.in_ok-push.ensures.items
