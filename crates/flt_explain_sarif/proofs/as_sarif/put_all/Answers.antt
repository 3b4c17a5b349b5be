use Rattle.flt_explain_parts.proofs.Adding.{both}
use Rattle.flt_explain_sarif.proofs.as_sarif.put_all.Goals as goal

pub returns : goal.returns
returns c = (
  c.in_ok-status.ensures.0,
  c.in_ok-status.ensures.1,
  both c.in_ok-status.ensures.2 c.in_ok-put_drift_results.ensures.ok,
)
