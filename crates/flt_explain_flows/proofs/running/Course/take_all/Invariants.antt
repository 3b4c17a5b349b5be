use Rattle.std.proofs.Common.{◌≡◌, drop}
use Rattle.flt_explain_flows.proofs.Runs.{ran_after}
use Rattle.flt_explain_flows.specs.Running.{ran_from}
use Rattle.flt_explain_flows.proofs.running.Course.take_all.Given as goal

-- what is kept of the entries so far, and then of those that come next, is all
abbrev pub invariant-loop-entry : goal.invariant-loop-entry
invariant-loop-entry l =
    ran_after l.all (ran_from l.stage.stack.now l.self (drop l.entry-index l.journal)) ≡ ran_from l.stage.stack.now l.fn.self l.journal
