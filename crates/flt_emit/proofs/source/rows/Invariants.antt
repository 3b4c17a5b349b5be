use Rattle.std.proofs.Common.{◌≡◌, ◌++◌, length}
use Rattle.flt_emit.specs.Source.{rows_of}
use Rattle.flt_emit.proofs.source.rows.Given as goal

abbrev pub invariant-loop-found : goal.invariant-loop-found
invariant-loop-found l = l.out.items ++ rows_of l.all l.found ≡ l.initial.out.items ++ rows_of l.all l.initial.found

abbrev pub decreases-loop-found : goal.decreases-loop-found
decreases-loop-found l = length l.found
