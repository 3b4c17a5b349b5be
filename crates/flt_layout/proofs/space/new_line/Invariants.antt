use Rattle.std.proofs.Common.{◌≡◌, ◌++◌}
use Rattle.flt_layout.specs.Layout.{new_line}
use Rattle.flt_layout.proofs.space.new_line.Given as goal

abbrev pub invariant-loop-at : goal.invariant-loop-at
invariant-loop-at l = l.out.items ≡ l.fn.out.items ++ new_line l._at
