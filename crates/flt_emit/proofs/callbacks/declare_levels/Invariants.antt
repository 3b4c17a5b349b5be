use Rattle.std.proofs.Common.{◌≡◌, ◌++◌, drop}
use Rattle.flt_emit.specs.Callbacks.{level_declarations}
use Rattle.flt_emit.proofs.callbacks.declare_levels.Given as goal

abbrev pub invariant-loop-place : goal.invariant-loop-place
invariant-loop-place l =
    l.out.items ++ level_declarations l.body l.place (drop l.place l.locks) ≡ l.initial.out.items ++ level_declarations l.body 0 l.locks
