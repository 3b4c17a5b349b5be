use Rattle.flt_explain_sarif.proofs.results.put_whole_region.Goals as goal

pub returns : goal.returns
returns c = rw (c.units_behind-first.ensures, c.units_behind-end.ensures) at c.put_region.ensures
