use Rattle.std.proofs.Common.{◌<◌, ℕ, get_or, Contains}
use Rattle.flt_stack_core.specs.Receipts.{receipt}
use Rattle.flt_stack_core.proofs.search.is_held_anywhere.Given as goal

abbrev pub invariant-loop-k : goal.invariant-loop-k
invariant-loop-k g l = (j : ℕ) (d : g.row.S.Denot) → j < l.k →
    Contains (g.S.HoldsReceipts.held (get_or l.seats j d)) (receipt l.sought.number l.sought.entry l.sought.answer) → ⊥
