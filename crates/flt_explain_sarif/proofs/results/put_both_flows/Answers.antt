use Rattle.flt_explain_parts.proofs.Adding.{behind}
use Rattle.flt_explain_sarif.proofs.results.put_both_flows.Goals as goal

pub returns : goal.returns
returns c =
    behind c.in_ok-put_flow.ensures.ok c.put_other_flow.ensures
