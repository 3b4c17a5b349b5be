use Rattle.std.proofs.Common.{◌≡◌, ◌++◌, length}
use Rattle.std.specs.List.{flat_map}
use Rattle.flt_emit.specs.Source.{lock_begun}
use Rattle.flt_emit.proofs.source.locks_begun.Given as goal

abbrev pub invariant-loop-locks : goal.invariant-loop-locks
invariant-loop-locks l = l.out.items ++ flat_map lock_begun l.locks ≡ l.initial.out.items ++ flat_map lock_begun l.initial.locks

abbrev pub decreases-loop-locks : goal.decreases-loop-locks
decreases-loop-locks l = length l.locks
