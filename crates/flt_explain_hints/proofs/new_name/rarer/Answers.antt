use Rattle.std.proofs.Common.{◌≡◌, ap, ◌∙◌, arith}
use Rattle.flt_explain_hints.specs.Names.{occurrences}
use Rattle.flt_explain_hints.proofs.Rare.{by_one, by_other}
use Rattle.flt_explain_hints.proofs.new_name.rarer.Goals as goal

pub returns-then-with_one-with_other : goal.returns-then-with_one-with_other
returns-then-with_one-with_other c =
    let text = c.args.text.now in
    let one : c.occurrences-with_one.result ≡ occurrences c.in_ok-one.one.items text =
    c.occurrences-with_one.ensures.value ∙ ap (λ z. occurrences z text) c.as_slice.ensures.value in
    let other : c.occurrences-with_other.result ≡ occurrences c.in_ok-other.other.items text =
    c.occurrences-with_other.ensures.value ∙ ap (λ z. occurrences z text) c.as_slice-2.ensures.value in
    by_one text c.args.name.now c.in_ok-one.one.items c.in_ok-other.other.items c.in_ok-one.ensures c.in_ok-other.ensures
    (omega (arith, one, other, c.if-with_one-with_other.true))

pub returns-else-with_one-with_other : goal.returns-else-with_one-with_other
returns-else-with_one-with_other c =
    let text = c.args.text.now in
    let one : c.occurrences-with_one.result ≡ occurrences c.in_ok-one.one.items text =
    c.occurrences-with_one.ensures.value ∙ ap (λ z. occurrences z text) c.as_slice.ensures.value in
    let other : c.occurrences-with_other.result ≡ occurrences c.in_ok-other.other.items text =
    c.occurrences-with_other.ensures.value ∙ ap (λ z. occurrences z text) c.as_slice-2.ensures.value in
    by_other text c.args.name.now c.in_ok-one.one.items c.in_ok-other.other.items c.in_ok-one.ensures c.in_ok-other.ensures
    (omega (arith, one, other, c.if-with_one-with_other.false))
