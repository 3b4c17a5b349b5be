use Rattle.std.proofs.Common.{◌≡◌, ℕ, ap, ◌∙◌, arith}
use Rattle.flt_tree.specs.Names.{Text}
use Rattle.flt_explain_hints.specs.Names.{occurrences}
use Rattle.flt_explain_hints.proofs.Rare.{begins, gets_rarer, is_new, is_rarer}
use Rattle.flt_explain_hints.proofs.new_name.new_name.Goals as goal

-- how often the name stands there, by what was counted
counted : (text name slice : Text) (n : ℕ) → n ≡ occurrences slice text → slice ≡ name → n ≡ occurrences name text
counted text name slice n e f = e ∙ ap (λ z. occurrences z text) f

pub loop-alloc-init : goal.loop-alloc-init
loop-alloc-init c = rw c.in_ok-name.ensures (begins c.args.text.now c.requires)

pub loop-alloc-preserved : goal.loop-alloc-preserved
loop-alloc-preserved c =
    let n = counted c.args.text.now c.loop-alloc.name.items _ _ c.occurrences.ensures.value c.as_slice.ensures.value in
    gets_rarer c.args.text.now c.loop-alloc.name.items c.in_ok-name-2.name.items c.loop-alloc.invariant
    (omega (arith, n, c.loop-alloc-test.true)) (rw c.as_slice-in-loop-alloc.ensures.value at c.in_ok-name-2.ensures)

pub loop-alloc-smaller : goal.loop-alloc-smaller
loop-alloc-smaller c =
    let n = counted c.args.text.now c.loop-alloc.name.items _ _ c.occurrences.ensures.value c.as_slice.ensures.value in
    is_rarer c.args.text.now c.loop-alloc.name.items c.in_ok-name-2.name.items
    (omega (arith, n, c.loop-alloc-test.true)) (rw c.as_slice-in-loop-alloc.ensures.value at c.in_ok-name-2.ensures)

pub returns : goal.returns
returns c =
    let n = counted c.args.text.now c.loop-alloc.name.items _ _ c.occurrences.ensures.value c.as_slice.ensures.value in
    is_new c.args.text.now c.loop-alloc.name.items c.loop-alloc.invariant (omega (arith, n, c.loop-alloc-test.false))
