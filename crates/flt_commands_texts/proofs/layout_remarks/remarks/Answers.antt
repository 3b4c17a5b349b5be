use Rattle.std.proofs.Common.{arith, ◌∙◌}
use Rattle.flt_commands_texts.specs.LayoutRemarks.{remarked}
use Rattle.flt_files.proofs.SomeRead.{lines_more}
use Rattle.flt_commands_texts.proofs.layout_remarks.remarks.Goals as goal

pub loop-file-preserved : goal.loop-file-preserved
loop-file-preserved c =
    lines_more (remarked c.args.mode) c.args.files.now c.loop-file.file-index c.file-item.result _ _ _
    (omega (arith, c.loop-file-test.true)) c.file-item.is c.loop-file.invariant
    (c.as_slice.ensures.value ∙ rw c.as_str-name.ensures.value at c.in_ok-remark.ensures)
    c.in_ok-extend_from_slice.ensures.items
