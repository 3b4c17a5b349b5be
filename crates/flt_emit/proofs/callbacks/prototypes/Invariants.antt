use Rattle.std.proofs.Common.{◌≡◌, ◌++◌, length}
use Rattle.flt_emit.specs.Callbacks.{prototypes_text}
use Rattle.flt_emit.proofs.callbacks.prototypes.Given as goal

abbrev pub invariant-loop-found : goal.invariant-loop-found
invariant-loop-found l = l.out.items ++ prototypes_text l.found ≡ l.initial.out.items ++ prototypes_text l.initial.found

abbrev pub decreases-loop-found : goal.decreases-loop-found
decreases-loop-found l = length l.found
