use Rattle.std.proofs.Common.{◌≡◌, Err, rules}
use Rattle.flt_files.specs.Inputs.{given, unread}
use Rattle.flt_commands_texts.proofs.functions.list_functions.Goals as goal

pub returns-in_err-contents : goal.returns-in_err-contents
returns-in_err-contents g c =
    let fails : c.from_residual.result ≡ Err c.in_err-contents.field-0.0 = search rules in rw fails (unread _ c.in_err-contents.ensures.err)

pub returns : goal.returns
returns g c = given _ c.in_ok-contents.ensures.ok (rw c.as_slice.ensures.value at c.list_texts.ensures)
