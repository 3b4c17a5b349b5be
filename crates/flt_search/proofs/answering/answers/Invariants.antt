use Rattle.std.proofs.Common.{take}
use Rattle.flt_replay_world.specs.Filters.{filters_of}
use Rattle.flt_search.specs.Found.{AreAnswers}
use Rattle.flt_search.proofs.answering.answers.Given as goal

abbrev pub invariant-loop-goal : goal.invariant-loop-goal
invariant-loop-goal l = AreAnswers (filters_of l.trees) (take l.goal-index l.goals) l.answers.items
