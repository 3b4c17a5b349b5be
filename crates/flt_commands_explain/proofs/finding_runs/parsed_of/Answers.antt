use Rattle.std.proofs.Common.{arith}
use Rattle.flt_commands_explain.specs.FindingRuns as spec
use Rattle.flt_commands_explain.proofs.FindingRuns.{one_more_parsed}
use Rattle.flt_commands_explain.proofs.finding_runs.parsed_of.Goals as goal

pub loop-number-init : goal.loop-number-init
loop-number-init c = rw (c.new.ensures.items, c.new-2.ensures.items, c.new-3.ensures) spec.no_text

pub loop-number-preserved : goal.loop-number-preserved
loop-number-preserved c =
    one_more_parsed c.args.sources.now c.loop-number.number _ (omega (arith, c.loop-number-test.true)) _ _ _ _ _ _ c.loop-number.invariant
    (rw c.index-sources-number.is at c.in_ok-add_parsed.ensures)
