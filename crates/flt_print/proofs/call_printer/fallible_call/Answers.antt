use Rattle.std.proofs.Common.{◌∷◌, ap, ◌∙◌}
use Rattle.flt_print.specs.Vocabulary.{spelling, fallible_kind}
use Rattle.flt_syntax.specs.Shape.{fallible_slots, fallible_tail}
use Rattle.flt_print.proofs.Appended.{call_written}
use Rattle.flt_print.proofs.call_printer.fallible_call.Goals as goal

pub returns : goal.returns
returns c =
    let s = c.fallible_shape-shape.ensures in
    call_written _ (λ k. 32 ∷ spelling k) _ _ _ _ _ _ _ _ _ _ _ (c.fallible_kind.ensures ∙ ap fallible_kind s) c.fallible_operands.ensures
    (c.slots.ensures ∙ ap fallible_slots s) (c.tail.ensures ∙ ap fallible_tail s) c.in_ok-word.ensures c.operands.ensures
