use Rattle.flt_files.specs.Attempts.{Grows}
use Rattle.flt_commands_runs.proofs.Drawing.{drawn_by}
use Rattle.flt_commands_runs.proofs.showing.draw.Goals as goal

pub returns-clause-drawn : goal.returns-clause-drawn
returns-clause-drawn g c =
    drawn_by (g.P.Pictures.written c.write.new.self) (Grows (g.P.Pictures.done c.args.pictures.now) (g.P.Pictures.done c.write.new.self))
    _ c.into_bytes-drawn.result.items _ _ c.write.result
    (rw c.into_bytes-drawn.ensures.value (rw c.as_slice-trees.ensures.value at c.in_ok-picture.ensures))
    (rw (c.as_slice.ensures.value, c.let_picture_out.ensures) at c.write.ensures.done)
    (rw (c.as_slice.ensures.value, c.let_picture_out.ensures) at c.write.ensures.wrote)
