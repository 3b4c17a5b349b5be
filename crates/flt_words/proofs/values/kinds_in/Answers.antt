use Rattle.std.proofs.Common.{◌∙◌, true, false, sym}
use Rattle.flt_words.proofs.KindNames.{kinds_if}
use Rattle.flt_words.proofs.values.kinds_in.Goals as goal

pub returns-then-are_kinds : goal.returns-then-are_kinds
returns-then-are_kinds c =
    sym (kinds_if c.args.names.items c.as_slice.result.now true c.as_slice.ensures.value (sym c.if-are_kinds.true ∙ c.are_kinds.ensures))

pub returns : goal.returns
returns c =
    sym (kinds_if c.args.names.items c.as_slice.result.now false c.as_slice.ensures.value (sym c.if-are_kinds.false ∙ c.are_kinds.ensures))
