use Rattle.flt_explain_parts.proofs.Adding.{behind}
use Rattle.flt_explain_forms.proofs.finding.put_route.Goals as goal

pub returns : goal.returns
returns c =
    behind c.in_ok-put_state.ensures.ok (behind c.in_ok-put_maker_member.ensures.ok c.put_path.ensures)
