use Rattle.flt_c_headers.proofs.Asking.{as_text, no_text}
use Rattle.flt_c_headers.proofs.answer.asked_name.Goals as goal

pub returns-in-Ok : goal.returns-in-Ok
returns-in-Ok c =
    let read = c.in-Ok.ensures.cases in
    (as_text c.args.name.now c.is_standard.result c.is_standard.ensures c.if-is_standard.false read.1, read.0)

pub returns-in-Err : goal.returns-in-Err
returns-in-Err c = no_text c.args.name.now c.in-Err.ensures.cases.0
