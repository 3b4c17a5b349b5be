use Rattle.std.proofs.Common.{ap, arith, length}
use Rattle.flt_explain_flows.proofs.Runs.{ran_all, ran_nowhere, ran_on}
use Rattle.flt_explain_flows.proofs.running.Course.take_all.Goals as goal

pub returns-in-None : goal.returns-in-None
returns-in-None c =
    ran_nowhere c.args.stage.now.stack.now c.loop-entry.self c.take.new.self c.loop-entry.all c.in_ok-taken.field-0 _
    c.entries-entry-items.result.now c.args.journal.now c.loop-entry.entry-index _ c.entries-entry-items.ensures c.loop-entry-test.true
    c.in_ok-taken.ensures c.in-None.is c.loop-entry.invariant

pub loop-entry-preserved : goal.loop-entry-preserved
loop-entry-preserved c =
    ran_on c.args.stage.now.stack.now c.loop-entry.self c.take.new.self c.loop-entry.all c.push.new.self
    c.in_ok-taken.field-0 c.in-Some.taken _
    c.entries-entry-items.result.now c.args.journal.now c.loop-entry.entry-index _ c.entries-entry-items.ensures c.loop-entry-test.true
    c.in_ok-taken.ensures c.in-Some.is c.in_ok-push-in-Some.ensures.ok c.loop-entry.invariant

pub returns : goal.returns
returns c =
    ran_all c.args.stage.now.stack.now c.loop-entry.self c.loop-entry.all _ c.args.journal.now c.loop-entry.entry-index
    (omega (arith, c.loop-entry-test.false, ap length c.entries-entry-items.ensures)) c.loop-entry.invariant
