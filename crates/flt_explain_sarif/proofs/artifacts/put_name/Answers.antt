use Rattle.flt_explain_sarif.proofs.artifacts.put_name.Goals as goal

pub returns : goal.returns
returns c = rw c.in_ok-reference.ensures at c.put_reference.ensures
