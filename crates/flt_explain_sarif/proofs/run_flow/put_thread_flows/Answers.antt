use Rattle.flt_explain_parts.proofs.Adding.{behind}
use Rattle.flt_explain_sarif.proofs.run_flow.put_thread_flows.Goals as goal

pub returns : goal.returns
returns c =
    behind c.in_ok-put_key.ensures.ok (behind c.in_ok-open_array.ensures.ok (behind c.in_ok-put_threads.ensures.ok c.close_array.ensures))
