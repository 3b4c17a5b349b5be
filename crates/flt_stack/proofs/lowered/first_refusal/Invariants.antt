use Rattle.std.proofs.Common.{take}
use Rattle.flt_stack.specs.Lowered as spec
use Rattle.flt_stack.proofs.lowered.first_refusal.Given as goal

abbrev pub invariant-loop-number : goal.invariant-loop-number
invariant-loop-number l = spec.AreCovered (take l.number l.graphs) (take l.number l.certificates)
