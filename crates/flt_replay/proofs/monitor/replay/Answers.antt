use Rattle.flt_replay_world.specs.Filters.{filters_of}
use Rattle.flt_replay.proofs.monitor.replay.Goals as goal

pub returns-clause-legal : goal.returns-clause-legal
returns-clause-legal c = rw c.in_ok-verdict.ensures
    (c.legal_journals_are_clean_runs.ensures.law (filters_of c.args.trees.now) c.args.journal.now)

pub returns-clause-not_a_run : goal.returns-clause-not_a_run
returns-clause-not_a_run c n = rw c.in_ok-verdict.ensures
    (c.first_faults_are_told.ensures.stopped (filters_of c.args.trees.now) c.args.journal.now n)

pub returns-clause-breaks : goal.returns-clause-breaks
returns-clause-breaks c violation n =
    rw c.in_ok-verdict.ensures (c.first_faults_are_told.ensures.broken (filters_of c.args.trees.now) c.args.journal.now violation n)
