use Rattle.flt_explain_parts.proofs.Adding.{both}
use Rattle.flt_explain_sarif.proofs.as_sarif.put_document.Goals as goal

pub returns : goal.returns
returns c = (
  c.in_ok-status.ensures.0,
  c.in_ok-status.ensures.1,
  both c.in_ok-open_object.ensures.ok (both c.in_ok-put_string.ensures.ok
      (both c.in_ok-put_string-2.ensures.ok (both c.in_ok-status.ensures.2 c.in_ok-close_object.ensures.ok))),
)
