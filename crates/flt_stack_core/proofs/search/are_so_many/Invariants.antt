use Rattle.std.proofs.Common.{◌≡◌, ◌+◌, length, map, take}
use Rattle.flt_stack_core.specs.Receipts.{together}
use Rattle.flt_stack_core.proofs.search.are_so_many.Given as goal

abbrev pub invariant-loop-k : goal.invariant-loop-k
invariant-loop-k g l = l.left + length (together (map g.S.HoldsReceipts.held (take l.k l.seats))) ≡ l.count
