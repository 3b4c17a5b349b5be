use Rattle.std.proofs.Common.{arith, ◌≡◌, ◌∙◌, ◌++◌, ℕ, ap, replicate, None}
use Rattle.flt_kinds.proofs.cells.add_callback.Goals as goal

pub returns : goal.returns
returns c =
    let all : c.loop-cell._cell ≡ 4617 = omega (arith, c.loop-cell-test.false, c.loop-cell.auto._cell-end) in
    c.loop-cell.invariant ∙ ap (λ (n : ℕ). c.args.cells.now.items ++ replicate n None) all
