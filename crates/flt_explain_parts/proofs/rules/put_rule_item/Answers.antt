use Rattle.flt_explain_parts.proofs.Adding.{behind}
use Rattle.flt_explain_parts.proofs.rules.put_rule_item.Goals as goal

pub returns : goal.returns
returns c =
    behind c.in_ok-open_object.ensures.ok (behind c.in_ok-put_string.ensures.ok
    (behind c.in_ok-put_names.ensures.ok (behind c.in_ok-put_description.ensures.ok (behind c.in_ok-put_help.ensures.ok
    (behind c.in_ok-put_configuration.ensures.ok (behind c.in_ok-put_properties.ensures.ok c.close_object.ensures))))))
