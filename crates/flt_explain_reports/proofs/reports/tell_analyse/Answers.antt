use Rattle.std.specs.Prelude.{codes}
use Rattle.flt_explain_reports.specs.Reports.{analyse_command, named}
use Rattle.flt_explain_reports.proofs.Written.{two_pieces}
use Rattle.flt_explain_reports.proofs.reports.tell_analyse.Goals as goal

pub returns : goal.returns
unfolding analyse_command
returns c =
    two_pieces c.tell_names.result c.args.page.now.out.items _ _ (codes "fltstack analyse ") (named (codes " ") c.args.files.now)
    c.in_ok-bytes.ensures c.tell_names.ensures
