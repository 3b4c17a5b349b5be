use Rattle.std.proofs.Common.{◌≡◌, ◌++◌}
use Rattle.flt_print.specs.Line.{indentation}
use Rattle.flt_print.proofs.line.begin.Given as goal

abbrev pub invariant-loop-at : goal.invariant-loop-at
invariant-loop-at l = l.out.items ≡ l.fn.out.items ++ indentation l._at
