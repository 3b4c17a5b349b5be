use Rattle.std.proofs.Common.{◌≡◌, ◌++◌, drop}
use Rattle.flt_kinds.specs.Flows.{followed}
use Rattle.flt_kinds.proofs.flows.followed.Given as goal

abbrev pub invariant-loop-number : goal.invariant-loop-number
invariant-loop-number l =
    l.out.items ++ followed l.kind l.number (drop l.number l.callbacks) ≡ l.initial.out.items ++ followed l.kind 0 l.callbacks
