use Rattle.flt_commands_explain.proofs.explain.sarif_with_runs.Goals as goal

pub returns-clause-told : goal.returns-clause-told
returns-clause-told g c = record {
  runs = c.in_ok-runs.runs.items;
  found = rw c.unsent.ensures.noted (rw c.as_slice.ensures at c.in_ok-runs.ensures);
  document = rw c.unsent.ensures.explained (rw c.as_slice-2.ensures.value at c.in_ok-explained.ensures);
}
