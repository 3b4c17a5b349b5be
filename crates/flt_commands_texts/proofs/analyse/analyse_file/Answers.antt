use Rattle.std.proofs.Common.{◌≡◌, Err, rules}
use Rattle.flt_files.specs.Inputs.{unread}
use Rattle.flt_files.proofs.Readings.{says_of_one}
use Rattle.flt_commands_texts.proofs.analyse.analyse_file.Goals as goal

pub returns-in_err-contents : goal.returns-in_err-contents
returns-in_err-contents g c =
    let fails : c.from_residual.result ≡ Err c.in_err-contents.field-0.0 = search rules in
    rw fails (unread _ c.in_err-contents.ensures.err)

pub returns : goal.returns
returns g c =
    says_of_one _ _ _ _ _ c.index.result.now c.in_ok-contents.ensures.each c.index.ensures c.in_ok-contents.ensures.ok
    (rw c.as_slice.ensures.value at c.analyse_text.ensures)
