use Rattle.flt_explain_parts.proofs.Adding.{behind}
use Rattle.flt_explain_parts.proofs.rules.put_names.Goals as goal

pub returns : goal.returns
returns c =
    behind c.in_ok-put_words.ensures.ok c.put_words_member.ensures
