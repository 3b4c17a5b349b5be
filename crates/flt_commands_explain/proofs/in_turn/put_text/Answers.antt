use Rattle.flt_commands_explain.proofs.InTurn.{text_more}
use Rattle.flt_commands_explain.proofs.in_turn.put_text.Goals as goal

pub returns-clause-text : goal.returns-clause-text
returns-clause-text g c =
    text_more c.args.style c.args.options c.args.source c.args.told.now _ _ _ c.in_ok-one.one.output.items c.in_ok-one.one.status
    c.in_ok-one.ensures (rw c.as_slice.ensures.value at c.in_ok-extend_from_slice.ensures.items) c.greater-told.ensures
    (rw c.as_slice-2.ensures.value at c.in_ok-put_let_out.ensures.ok)
