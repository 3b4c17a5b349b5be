use Rattle.std.proofs.Common.{arith}
use Rattle.flt_commands_explain.proofs.MadeSources.{source_more}
use Rattle.flt_commands_explain.proofs.sources.sources_of.Goals as goal

pub loop-joined-preserved : goal.loop-joined-preserved
loop-joined-preserved c =
    rw c.in_ok-push.ensures.items
    (source_more c.args.files.now c.args.texts.now c.loop-joined.sources.items c.loop-joined.joined-index c.joined-item.result
    c.source_of.result (omega (arith, c.loop-joined-test.true)) c.joined-item.is c.loop-joined.invariant c.source_of.ensures)
