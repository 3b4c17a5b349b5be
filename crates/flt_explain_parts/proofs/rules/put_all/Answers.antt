use Rattle.flt_explain_parts.proofs.Adding.{both}
use Rattle.flt_explain_parts.proofs.rules.put_all.Goals as goal

pub returns : goal.returns
returns c = (
  c.in_ok-put_rules.ensures.0,
  rw c.all.ensures at c.in_ok-put_rules.ensures.1,
  both c.in_ok-put_rules.ensures.2 c.in_ok-put_drift_rules.ensures.ok,
)
