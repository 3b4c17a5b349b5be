use Rattle.std.proofs.Common.{◌≡◌, ◌+◌}
use Rattle.std.specs.List.{sum_by}
use Rattle.flt_stack_threads.proofs.ending.merge_callers.Given as goal

abbrev pub invariant-seats : goal.invariant-seats
invariant-seats g l = (l.all.parts ≡ l.initial.all.parts + sum_by (λ seat. seat.receipts.share.parts) l.yielded)
    × (l.all.amount ≡ l.initial.all.amount + sum_by (λ seat. seat.receipts.share.amount) l.yielded)
    × (l.fulls.amount ≡ l.initial.fulls.amount + sum_by (λ seat. seat.fulls.amount) l.yielded)
