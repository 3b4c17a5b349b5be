use Rattle.flt_explain_parts.proofs.Adding.{both}
use Rattle.flt_explain_parts.proofs.rules.put_rules_member.Goals as goal

pub returns : goal.returns
returns c = (
  c.in_ok-put_all.ensures.0,
  c.in_ok-put_all.ensures.1,
  both c.in_ok-put_key.ensures.ok (both c.in_ok-open_array.ensures.ok (both c.in_ok-put_all.ensures.2 c.in_ok-close_array.ensures.ok)),
)
