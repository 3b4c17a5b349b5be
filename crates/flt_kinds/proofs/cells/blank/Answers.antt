use Rattle.std.proofs.Common.{arith, ◌≡◌, ◌∙◌, ◌+◌, ◌++◌, ap, replicate, None}
use Rattle.std.proofs.lemmas.List.{replicate-append-replicate}
use Rattle.flt_kinds.specs.Cells.{cells_for}
use Rattle.flt_kinds.proofs.cells.blank.Goals as goal

pub loop-callback-preserved : goal.loop-callback-preserved
loop-callback-preserved c =
    let k = c.loop-callback._callback in
    let more : cells_for k + 4617 ≡ cells_for (k + 1) = omega arith in
    c.in_ok-add_callback.ensures ∙ ap (λ l. l ++ replicate 4617 None) c.loop-callback.invariant
    ∙ replicate-append-replicate (cells_for k) 4617 None ∙ ap (λ n. replicate n None) more
