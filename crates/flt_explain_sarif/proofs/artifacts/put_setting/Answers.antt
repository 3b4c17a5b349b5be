use Rattle.flt_explain_parts.proofs.Adding.{behind}
use Rattle.flt_explain_sarif.proofs.artifacts.put_setting.Goals as goal

pub returns : goal.returns
returns c =
    behind c.in_ok-put_bases.ensures.ok (behind c.in_ok-put_artifacts.ensures.ok c.put_column_kind.ensures)
