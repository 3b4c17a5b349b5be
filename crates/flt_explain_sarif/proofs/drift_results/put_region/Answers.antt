use Rattle.flt_explain_sarif.proofs.drift_results.put_region.Goals as goal

pub returns : goal.returns
returns c = rw (c.units_in-first.ensures, c.units_in-end.ensures) at c.put_region.ensures
