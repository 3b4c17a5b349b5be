use Rattle.flt_replay_world.specs.Filters.{filters_of}
use Rattle.flt_search.specs.Found.{AreRuns}
use Rattle.flt_search.proofs.answering.judge_all.Given as goal

abbrev pub invariant-loop-journal : goal.invariant-loop-journal
invariant-loop-journal l = AreRuns (filters_of l.trees) l.runs.items
