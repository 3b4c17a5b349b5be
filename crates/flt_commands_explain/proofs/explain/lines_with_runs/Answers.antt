use Rattle.flt_commands_explain.proofs.explain.lines_with_runs.Goals as goal

pub returns-clause-told : goal.returns-clause-told
returns-clause-told g c = record {
  runs = c.as_slice-2.result;
  found = rw (c.unsent.ensures.noted, c.as_slice-2.ensures.value) (rw c.as_slice.ensures at c.in_ok-runs.ensures);
  lines = rw c.unsent.ensures.explained c.in_ok-explained.ensures;
}
