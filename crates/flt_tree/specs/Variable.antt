-- Where a variable stands among those of its kind, and whose operation it names.
use Rattle.std.specs.Prelude.{ℕ}
use Rattle.flt_rules.specs.declared.call.Possessed.{Possessed}
use Rattle.flt_rules.specs.declared.call.Possessed.TheVariants as possessed
use Rattle.flt_tree.specs.declared.variable.ContextVariable.{ContextVariable}
use Rattle.flt_tree.specs.declared.variable.ContextVariable.TheVariants.{C0, C1, C2, C3, C4, C5, C6, C7, Arg}
use Rattle.flt_tree.specs.declared.variable.NumberVariable.{NumberVariable}
use Rattle.flt_tree.specs.declared.variable.NumberVariable.TheVariants.{N0, N1, N2, N3, N4, N5, N6, N7}
use Rattle.flt_tree.specs.declared.variable.OperationVariable.{OperationVariable}
use Rattle.flt_tree.specs.declared.variable.OperationVariable.TheVariants.{Removed, Data}
use Rattle.flt_tree.specs.declared.variable.RemovedVariable.TheVariants.{O0, O1, O2, O3}

-- `n0` to `n7`
abbrev pub number_place : NumberVariable → ℕ
number_place N0 = 0
number_place N1 = 1
number_place N2 = 2
number_place N3 = 3
number_place N4 = 4
number_place N5 = 5
number_place N6 = 6
number_place N7 = 7

-- `c0` to `c7`, then `arg`
abbrev pub context_place : ContextVariable → ℕ
context_place C0 = 0
context_place C1 = 1
context_place C2 = 2
context_place C3 = 3
context_place C4 = 4
context_place C5 = 5
context_place C6 = 6
context_place C7 = 7
context_place Arg = 8

-- `o0` to `o3`, then `data`
abbrev pub operation_place : OperationVariable → ℕ
operation_place (Removed O0) = 0
operation_place (Removed O1) = 1
operation_place (Removed O2) = 2
operation_place (Removed O3) = 3
operation_place Data = 4

-- `data` is the operation that the callback was given; the others are removed from the queue
abbrev pub whose : OperationVariable → Possessed
whose Data = possessed.Given
whose (Removed o) = possessed.Removed
