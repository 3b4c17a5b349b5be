use Rattle.flt_explain_parts.proofs.rules.put_index.Goals as goal

pub returns : goal.returns
returns c = rw c.index_of.ensures at c.put_number.ensures
