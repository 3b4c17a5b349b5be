use Rattle.std.proofs.Common.{arith}
use Rattle.flt_explain_parts.proofs.Names.{all_groups_in, more_names}
use Rattle.flt_explain_parts.specs.Files.{own_names}
use Rattle.flt_explain_parts.proofs.file.add_texts.Goals as goal

pub loop-source-preserved : goal.loop-source-preserved
loop-source-preserved c =
    more_names c.args.sources.now c.loop-source.source-index c.source-item.result (omega (arith, c.loop-source-test.true)) c.source-item.is
    own_names _ _ _ c.loop-source.invariant c.in_ok-add_names.ensures

pub returns : goal.returns
returns c =
    all_groups_in c.args.sources.now c.loop-source.source-index (omega (arith, c.loop-source-test.false)) own_names _ _
    c.loop-source.invariant
