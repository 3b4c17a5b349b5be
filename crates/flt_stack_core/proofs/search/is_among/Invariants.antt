use Rattle.std.proofs.Common.{◌≡◌, ◌<◌, ℕ, get_or}
use Rattle.flt_stack_core.specs.Receipts.{receipt}
use Rattle.flt_stack_core.specs.declared.receipt.Receipt.{Receipt}
use Rattle.flt_stack_core.proofs.search.is_among.Given as goal

abbrev pub invariant-loop-k : goal.invariant-loop-k
invariant-loop-k l = (j : ℕ) (d : Receipt) → j < l.k → get_or l.held j d ≡ receipt l.sought.number l.sought.entry l.sought.answer → ⊥
