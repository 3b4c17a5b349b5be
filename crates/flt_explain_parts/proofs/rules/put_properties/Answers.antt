use Rattle.flt_explain_parts.proofs.Adding.{behind}
use Rattle.flt_explain_parts.proofs.rules.put_properties.Goals as goal

pub returns : goal.returns
returns c =
    behind c.in_ok-put_key.ensures.ok (behind c.in_ok-open_object.ensures.ok (behind c.in_ok-put_tags.ensures.ok
    (behind c.in_ok-put_precision.ensures.ok (behind c.in_ok-put_level.ensures.ok c.close_object.ensures))))
