use Rattle.std.proofs.Common.{List, Contains, subst, arith}
use Rattle.flt_stack_core.specs.Receipts.{receipt}
use Rattle.flt_stack_core.specs.declared.receipt.Receipt.{Receipt}
use Rattle.flt_stack_core.proofs.Holding.{held_by_one}
use Rattle.flt_stack_core.proofs.search.is_held_in_order.Goals as goal

pub returns-then-is_at_its_place : goal.returns-then-is_at_its_place
returns-then-is_at_its_place g c = λ yes.
    let held = g.S.HoldsReceipts.held in
    let r = receipt c.args.sought.now.number c.args.sought.now.entry c.args.sought.now.answer in
    let here : Contains (held c.index-seats-k.result) r =
    subst (λ (xs : List Receipt). Contains xs r) c.receipts.ensures (c.if-is_at_its_place.ensures yes) in
    held_by_one held r c.args.seats.now c.loop-k.k c.index-seats-k.result (omega arith)
    (subst (λ s. Contains (held s) r) c.index-seats-k.is here)
