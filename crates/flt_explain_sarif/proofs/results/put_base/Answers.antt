use Rattle.flt_explain_sarif.proofs.results.put_base.Goals as goal

pub returns : goal.returns
returns c = rw c.if-is_absolute.false c.put_string.ensures
