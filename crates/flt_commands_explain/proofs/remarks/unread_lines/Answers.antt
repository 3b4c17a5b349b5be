use Rattle.std.proofs.Common.{arith, ◌∙◌}
use Rattle.flt_commands_explain.specs.Remarks.{unread_lines}
use Rattle.flt_files.proofs.SomeRead.{lines_more}
use Rattle.flt_commands_explain.proofs.remarks.unread_lines.Goals as goal

pub loop-file-preserved : goal.loop-file-preserved
loop-file-preserved c =
    lines_more unread_lines c.args.files.now c.loop-file.file-index c.file-item.result _ _ _
    (omega (arith, c.loop-file-test.true)) c.file-item.is
    c.loop-file.invariant (c.as_bytes.ensures.value ∙ c.in_ok-lines_on_file.ensures) c.in_ok-extend_from_slice.ensures.items
