use Rattle.flt_explain_parts.proofs.Adding.{both}
use Rattle.flt_explain_parts.proofs.rules.put_driver.Goals as goal

pub returns : goal.returns
returns c = (
  c.in_ok-put_rules_member.ensures.0,
  c.in_ok-put_rules_member.ensures.1,
  both c.in_ok-put_key.ensures.ok (both c.in_ok-open_object.ensures.ok
      (both c.in_ok-put_versions.ensures.ok (both c.in_ok-put_rules_member.ensures.2 c.in_ok-close_object.ensures.ok))),
)
