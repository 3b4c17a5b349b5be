use Rattle.std.proofs.Common.{◌≡◌, List, Contains, get_or, refl, ◌∙◌, subst, sym, arith}
use borrow.Author.Count.{below_more}
use Rattle.std.proofs.lemmas.List.{get_or_default}
use Rattle.flt_stack_core.specs.Receipts.{receipt}
use Rattle.flt_stack_core.specs.declared.receipt.Receipt.{Receipt}
use Rattle.flt_stack_core.proofs.Holding.{held_by_none, held_by_one}
use Rattle.flt_stack_core.proofs.search.is_held_anywhere.Goals as goal

pub returns-then-is_among : goal.returns-then-is_among
returns-then-is_among g c =
    let held = g.S.HoldsReceipts.held in
    let r = receipt c.args.sought.now.number c.args.sought.now.entry c.args.sought.now.answer in (
      λ yes.
          let here : Contains (held c.index-seats-k.result) r =
          subst (λ (xs : List Receipt). Contains xs r) c.receipts.ensures (c.if-is_among.ensures.0 yes) in
          held_by_one held r c.args.seats.now c.loop-k.k c.index-seats-k.result (omega arith)
          (subst (λ s. Contains (held s) r) c.index-seats-k.is here),
      λ has. refl,
    )

pub loop-k-preserved : goal.loop-k-preserved
loop-k-preserved g c =
    let held = g.S.HoldsReceipts.held in
    let seats = c.args.seats.now in
    let r = receipt c.args.sought.now.number c.args.sought.now.entry c.args.sought.now.answer in
    λ j d below.
    below_more (λ j. (d : g.row.S.Denot) → Contains (held (get_or seats j d)) r → ⊥) c.loop-k.k
    (λ j less d. c.loop-k.invariant j d less)
    (λ d has.
    let same : get_or seats c.loop-k.k d ≡ c.index-seats-k.result =
    get_or_default seats c.loop-k.k d c.index-seats-k.result (omega arith) ∙ sym c.index-seats-k.is in
    let here : Contains (held c.index-seats-k.result) r = subst (λ s. Contains (held s) r) same has in
    absurd (let e = c.if-is_among.ensures.1 (subst (λ (xs : List Receipt). Contains xs r) (sym c.receipts.ensures) here) in cc))
    j below d

pub returns : goal.returns
returns g c =
    let held = g.S.HoldsReceipts.held in
    let r = receipt c.args.sought.now.number c.args.sought.now.entry c.args.sought.now.answer in (
      λ no. absurd (cc),
      λ has. absurd (held_by_none held r c.args.seats.now (λ j d below. c.loop-k.invariant j d (omega arith)) has),
    )
