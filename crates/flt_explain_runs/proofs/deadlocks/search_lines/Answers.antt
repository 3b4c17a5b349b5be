use Rattle.flt_explain_runs.proofs.deadlocks.search_lines.Goals as goal

pub returns : goal.returns
returns g c = record {
  answer = c.in_ok-answer.answer;
  is = c.in_ok-answer.ensures;
  are = c.in_ok-lines.ensures;
}
