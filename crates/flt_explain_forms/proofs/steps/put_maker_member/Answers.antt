use Rattle.flt_explain_parts.proofs.Adding.{behind}
use Rattle.flt_explain_forms.proofs.steps.put_maker_member.Goals as goal

pub returns-in_ok-put_key-in-Some : goal.returns-in_ok-put_key-in-Some
returns-in_ok-put_key-in-Some c = rw c.in-Some.is (behind c.in_ok-put_key-in-Some.ensures.ok c.put_maker.ensures)
