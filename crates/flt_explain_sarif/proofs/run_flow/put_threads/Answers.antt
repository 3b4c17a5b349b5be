use Rattle.flt_explain_parts.proofs.Adding.{behind}
use Rattle.flt_explain_sarif.proofs.run_flow.put_threads.Goals as goal

pub returns : goal.returns
returns c = behind c.in_ok-put_thread.ensures.ok (rw c.as_slice.ensures at c.put_named.ensures)
