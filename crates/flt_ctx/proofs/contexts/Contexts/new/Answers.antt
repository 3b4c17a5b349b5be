use Rattle.std.proofs.Common.{◌≡◌, ◌+◌, ◌∙◌, ap, [], length, List, ℕ, replicate, false, arith}
use Rattle.std.proofs.lemmas.List.{length-replicate}
use Rattle.flt_ctx.proofs.Fresh.{AreKept-fresh}
use Rattle.flt_ctx.proofs.contexts.Contexts.new.Goals as goal

pub invariant_of-result : goal.invariant_of-result
invariant_of-result c =
    let closed : c.args.filters ≡ length c.loop.closed.items =
    omega (arith, ap length c.loop.invariant.closed, length-replicate c.loop.counter false) in
    let counted : c.loop-2.counter ≡ 1025 = omega arith in
    let lists : c.loop-2.lists.lists ≡ replicate (length c.loop.closed.items + 1025) [] =
    c.loop-2.invariant.lists ∙ (λ i. replicate (closed i + counted i) []) in
    AreKept-fresh c.new.result.items (length c.loop.closed.items) c.loop-2.lists c.new-2.result.items c.new-3.result.set c.new.ensures.items
    (ap (λ (ls : List (List ℕ)). length ls) lists
    ∙ length-replicate (length c.loop.closed.items + 1025) []) lists c.loop-2.invariant.nodes c.new-3.ensures
