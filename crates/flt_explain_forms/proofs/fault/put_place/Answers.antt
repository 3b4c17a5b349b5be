use Rattle.flt_explain_parts.proofs.Adding.{behind}
use Rattle.flt_explain_forms.proofs.fault.put_place.Goals as goal

pub returns : goal.returns
returns c =
    let place = rw (c.file_place.ensures, c.place_of.ensures, c.last_column.ensures) at c.in_ok-put_fault_place.ensures.ok in
    let rule = rw c.fault_name.ensures at c.put_string.ensures in
    behind place rule
