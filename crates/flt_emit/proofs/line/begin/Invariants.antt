use Rattle.std.proofs.Common.{◌≡◌, ◌++◌}
use Rattle.flt_emit.specs.Line.{indentation}
use Rattle.flt_emit.proofs.line.begin.Given as goal

abbrev pub invariant-loop-at : goal.invariant-loop-at
invariant-loop-at l = l.out.items ≡ l.fn.out.items ++ indentation l._at
