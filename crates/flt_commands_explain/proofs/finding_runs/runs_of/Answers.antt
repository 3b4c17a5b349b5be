use Rattle.std.proofs.Common.{arith}
use Rattle.flt_commands_explain.specs.FindingRuns as spec
use Rattle.flt_commands_explain.proofs.FindingRuns.{one_more_run}
use Rattle.flt_commands_explain.proofs.finding_runs.runs_of.Goals as goal

pub loop-one-init : goal.loop-one-init
loop-one-init c = rw c.new-runs.ensures.items spec.no_note

pub loop-one-preserved : goal.loop-one-preserved
loop-one-preserved c =
    one_more_run c.in_ok-parsed.parsed.trees.items c.in_ok-parsed.parsed.files.items c.in_ok-parsed.parsed.numbers c.args.noted.now
    c.loop-one.one-index c.one-item.result
    (omega (arith, c.loop-one-test.true)) c.one-item.is _ _ c.loop-one.invariant c.in_ok-add_run.ensures
