use Rattle.flt_explain_parts.proofs.Adding.{behind}
use Rattle.flt_explain_sarif.proofs.results.put_all_flows.Goals as goal

pub returns : goal.returns
returns c = behind c.in_ok-put_own_flows.ensures.ok c.put_run_flow.ensures
