use Rattle.std.proofs.Common.{◌≡◌, ◌++◌, length}
use Rattle.flt_emit.specs.Files.{hook_defaults}
use Rattle.flt_emit.proofs.files.hook_defaults.Given as goal

abbrev pub invariant-loop-found : goal.invariant-loop-found
invariant-loop-found l = l.out.items ++ hook_defaults l.found ≡ l.initial.out.items ++ hook_defaults l.initial.found

abbrev pub decreases-loop-found : goal.decreases-loop-found
decreases-loop-found l = length l.found
