use Rattle.std.proofs.Common.{◌≡◌, Err, rules}
use Rattle.flt_files.specs.Inputs.{unread}
use Rattle.flt_files.proofs.Readings.{both, only_one, says_of_one, says_of_both}
use Rattle.flt_commands_texts.proofs.emit_into.emit_files_into.Goals as goal

pub returns-in_err-contents-in-None-clause-said : goal.returns-in_err-contents-in-None-clause-said
returns-in_err-contents-in-None-clause-said g c =
    let fails : c.from_residual.result ≡ Err c.in_err-contents-in-None.field-0.0 = search rules in
    rw (c.in-None.is, fails) (unread _ c.in_err-contents-in-None.ensures.err)

pub returns-in_err-contents-in-Some-clause-said : goal.returns-in_err-contents-in-Some-clause-said
returns-in_err-contents-in-Some-clause-said g c =
    let fails : c.from_residual-in_err-contents-in-Some.result ≡ Err c.in_err-contents-in-Some.field-0.0 = search rules in
    rw (c.in-Some.is, fails) (unread _ c.in_err-contents-in-Some.ensures.err)

pub returns-in_ok-contents-in-None-clause-said : goal.returns-in_ok-contents-in-None-clause-said
returns-in_ok-contents-in-None-clause-said g c =
    rw c.in-None.is (says_of_one _ _ _ _ _ c.index.result.now c.in_ok-contents-in-None.ensures.each
    c.index.ensures
    c.in_ok-contents-in-None.ensures.ok (rw c.as_slice-text.ensures.value at c.write_analysed.ensures.said))

pub returns-in_ok-contents-in-Some-clause-said : goal.returns-in_ok-contents-in-Some-clause-said
returns-in_ok-contents-in-Some-clause-said g c =
    rw c.in-Some.is (says_of_both _ _ _ _ _ _ c.index-in-Some.result.now c.index-in-Some-2.result.now
    c.in_ok-contents-in-Some.ensures.each c.index-in-Some.ensures c.index-in-Some-2.ensures c.in_ok-contents-in-Some.ensures.ok
    (rw (c.as_slice.ensures.value, c.as_slice-in-Some.ensures.value) at c.write_checked.ensures.said))

pub returns-in_ok-contents-in-None-clause-put : goal.returns-in_ok-contents-in-None-clause-put
returns-in_ok-contents-in-None-clause-put g c =
    rw (only_one _ c.index.result.now c.in_ok-contents-in-None.ensures.each c.index.ensures)
    (rw c.as_slice-text.ensures.value at c.write_analysed.ensures.put)

pub returns-in_ok-contents-in-Some-clause-put : goal.returns-in_ok-contents-in-Some-clause-put
returns-in_ok-contents-in-Some-clause-put g c =
    rw (both _ c.index-in-Some.result.now c.index-in-Some-2.result.now c.in_ok-contents-in-Some.ensures.each c.index-in-Some.ensures
    c.index-in-Some-2.ensures)
    (rw (c.as_slice.ensures.value, c.as_slice-in-Some.ensures.value) at c.write_checked.ensures.put)
