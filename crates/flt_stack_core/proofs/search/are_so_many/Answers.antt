use Rattle.std.proofs.Common.{◌≡◌, ◌+◌, get_or, length, ap, arith}
use Rattle.flt_stack_core.proofs.Holding.{no_more, one_seat_more}
use Rattle.flt_stack_core.proofs.search.are_so_many.Goals as goal

pub returns-then-left-here : goal.returns-then-left-here
returns-then-left-here g c =
    let held = g.S.HoldsReceipts.held in
    let seats = c.args.seats.now in
    let i = c.loop-k.invariant in
    let here : length c.receipts-here.result.now ≡ length (held c.index-seats-k.result) = ap length c.receipts-here.ensures in
    let is : length (held c.index-seats-k.result) ≡ length (held (get_or seats c.loop-k.k c.index-seats-k.result)) =
    ap (λ s. length (held s)) c.index-seats-k.is in
    let more = one_seat_more held seats c.loop-k.k c.index-seats-k.result (omega arith) in
    let few = no_more held seats (c.loop-k.k + 1) in
    (λ no. absurd (cc), λ same. absurd (omega (arith, same)))

pub loop-k-preserved : goal.loop-k-preserved
loop-k-preserved g c =
    let held = g.S.HoldsReceipts.held in
    let seats = c.args.seats.now in
    let i = c.loop-k.invariant in
    let here : length c.receipts-here.result.now ≡ length (held c.index-seats-k.result) = ap length c.receipts-here.ensures in
    let is : length (held c.index-seats-k.result) ≡ length (held (get_or seats c.loop-k.k c.index-seats-k.result)) =
    ap (λ s. length (held s)) c.index-seats-k.is in
    let more = one_seat_more held seats c.loop-k.k c.index-seats-k.result (omega arith) in
    omega arith
