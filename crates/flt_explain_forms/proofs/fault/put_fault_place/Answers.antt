use Rattle.flt_explain_parts.proofs.Adding.{behind}
use Rattle.flt_explain_forms.proofs.fault.put_fault_place.Goals as goal

pub returns : goal.returns
returns c =
    behind c.in_ok-put_number.ensures.ok
    (behind c.in_ok-put_number-2.ensures.ok
    (behind c.in_ok-put_number-3.ensures.ok
    c.put_number-4.ensures))
