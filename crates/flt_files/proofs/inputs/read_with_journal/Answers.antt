use Rattle.std.proofs.Common.{◌≡◌, Err, rules}
use Rattle.flt_files.proofs.Firsts.{given_behind_one, fail_behind_one, unreadable_first}
use Rattle.flt_files.proofs.inputs.read_with_journal.Goals as goal

pub returns-in_default-clause-err : goal.returns-in_default-clause-err
returns-in_default-clause-err g c = unreadable_first _ c.args.journal _ (rw c.in_default.is at c.in_ok-written.ensures)

pub returns-in_err-texts-clause-err : goal.returns-in_err-texts-clause-err
returns-in_err-texts-clause-err g c =
    let fails : c.from_residual-in_err-texts.result ≡ Err c.in_err-texts.field-0.0 = search rules in
    rw fails (fail_behind_one _ _ _ (rw c.in-Some.is at c.in_ok-written.ensures) _ c.is_standard.ensures _ _ c.in_err-texts.ensures.err)

pub returns-clause-ok : goal.returns-clause-ok
returns-clause-ok g c =
    given_behind_one _ _ _ (rw c.in-Some.is at c.in_ok-written.ensures) _ c.is_standard.ensures _ _ c.in_ok-texts.ensures.ok
