use Rattle.flt_explain_parts.proofs.rules.put_precision.Goals as goal

pub returns : goal.returns
returns c = rw c.precision_of.ensures at c.put_string.ensures
