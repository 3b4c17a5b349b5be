use Rattle.std.specs.Prelude.{codes}
use Rattle.flt_explain_reports.specs.Reports.{extract_command, named}
use Rattle.flt_explain_reports.proofs.Written.{three_pieces}
use Rattle.flt_explain_reports.proofs.reports.tell_extract.Goals as goal

pub returns : goal.returns
unfolding extract_command
returns c =
    three_pieces c.bytes-2.result c.args.page.now.out.items _ _ _ (codes "fltstack extract ") (named (codes " ") c.args.files.now)
    (codes " | fltstack analyse -") c.in_ok-bytes.ensures c.in_ok-tell_names.ensures c.bytes-2.ensures
