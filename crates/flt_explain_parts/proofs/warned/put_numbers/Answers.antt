use Rattle.flt_explain_parts.proofs.Adding.{behind}
use Rattle.flt_explain_parts.proofs.warned.put_numbers.Goals as goal

pub returns : goal.returns
returns c =
    behind c.in_ok-put_number.ensures.ok c.put_number-2.ensures
