use Rattle.std.proofs.Common.{ap, ◌∙◌}
use Rattle.flt_syntax.specs.TextFails.{Fails}
use Rattle.flt_explain_hints.specs.Trial.{gap_of, is_past, tried}
use Rattle.flt_explain_hints.proofs.Tried.{tried_fails}
use Rattle.flt_explain_hints.proofs.trial.may_stand.Goals as goal

pub returns-in-Err-Syntax : goal.returns-in-Err-Syntax
returns-in-Err-Syntax c =
    let said : Fails c.as_slice.result.now c.in-Err-Syntax.fault = rw c.in-Err-Syntax.field-0-is at c.in-Err-Syntax.ensures.fault in
    let kept : Fails c.in_ok-text.text.items c.in-Err-Syntax.fault = rw c.as_slice.ensures.value at said in
    let there : Fails (tried (gap_of c.args.gap) c.args.word.now) c.in-Err-Syntax.fault = rw c.in_ok-text.ensures at kept in
    tried_fails c.the_fault_is_the_one_told.ensures (gap_of c.args.gap) c.args.word.now c.in-Err-Syntax.fault there c.is_past.result
    (c.is_past.ensures ∙ ap (λ n. is_past n c.in-Err-Syntax.fault) c.line_behind.ensures)
