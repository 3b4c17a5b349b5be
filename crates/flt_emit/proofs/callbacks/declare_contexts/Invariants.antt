use Rattle.std.proofs.Common.{◌≡◌, ◌++◌, length}
use Rattle.std.specs.List.{flat_map}
use Rattle.flt_emit.specs.Callbacks.{context_declaration}
use Rattle.flt_emit.proofs.callbacks.declare_contexts.Given as goal

abbrev pub invariant-loop-variables : goal.invariant-loop-variables
invariant-loop-variables l = l.out.items ++ flat_map (context_declaration l.body) l.variables ≡
    l.initial.out.items ++ flat_map (context_declaration l.body) l.initial.variables

abbrev pub decreases-loop-variables : goal.decreases-loop-variables
decreases-loop-variables l = length l.variables
