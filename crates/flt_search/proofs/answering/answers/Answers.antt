use Rattle.std.proofs.Common.{[], false}
use Rattle.flt_replay_world.specs.Filters.{filters_of}
use Rattle.flt_search.proofs.MoreAnswers.{one_answer_more}
use Rattle.flt_search.proofs.answering.answers.Goals as goal

pub loop-goal-preserved : goal.loop-goal-preserved
loop-goal-preserved c =
    one_answer_more (filters_of c.args.trees.now) c.args.goals.now c.loop-goal.goal-index
    record { filter = 0; callback = 0; point = 0; wanted = record { ref_ptr = (0, 0); now = [] }; is_anywhere = false }
    _ _ _ c.loop-goal-test.true c.loop-goal.invariant c.in_ok-one.ensures c.in_ok-push.ensures.items
