use Rattle.std.proofs.Common.{ap, ◌∙◌}
use Rattle.flt_print.specs.Vocabulary.{plain_kind}
use Rattle.flt_syntax.specs.Shape.{plain_slots, plain_tail}
use Rattle.flt_print.proofs.Appended.{line_written}
use Rattle.flt_print.proofs.call_printer.plain_call.Goals as goal

pub returns : goal.returns
returns c =
    let s = c.plain_shape-shape.ensures in
    line_written _ c.args.level _ _ _ _ _ _ _ _ _ _ _ (c.plain_kind.ensures ∙ ap plain_kind s) c.plain_operands.ensures
    (c.slots.ensures ∙ ap plain_slots s) (c.tail.ensures ∙ ap plain_tail s) c.in_ok-begin.ensures c.operands.ensures
