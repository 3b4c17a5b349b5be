use Rattle.flt_explain_parts.proofs.Adding.{behind}
use Rattle.flt_explain_forms.proofs.run_member.put_region.Goals as goal

pub returns : goal.returns
returns c =
    behind c.in_ok-put_key.ensures.ok (behind c.in_ok-open_object.ensures.ok
    (behind c.in_ok-put_region_members.ensures.ok c.close_object.ensures))
