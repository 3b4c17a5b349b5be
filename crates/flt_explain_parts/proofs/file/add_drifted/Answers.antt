use Rattle.std.proofs.Common.{arith}
use Rattle.flt_explain_parts.proofs.Names.{all_names_in, one_name_more}
use Rattle.flt_explain_parts.specs.declared.drifted.DriftedFile.{DriftedFile}
use Rattle.flt_explain_parts.proofs.file.add_drifted.Goals as goal

pub loop-file-preserved : goal.loop-file-preserved
loop-file-preserved c =
    one_name_more c.args.drifted.now c.loop-file.file-index c.file-item.result (omega (arith, c.loop-file-test.true)) c.file-item.is
    (λ (f : DriftedFile). f.name) _ _ _ c.loop-file.invariant c.in_ok-add_name.ensures

pub returns : goal.returns
returns c =
    all_names_in c.args.drifted.now c.loop-file.file-index (omega (arith, c.loop-file-test.false)) (λ (f : DriftedFile). f.name) _ _
    c.loop-file.invariant
