use Rattle.flt_explain_runs.proofs.Reports.{again_rows}
use Rattle.flt_explain_runs.proofs.printing.Printer.again_lines.Goals as goal

pub returns-in-Some-again-clause-rows : goal.returns-in-Some-again-clause-rows
returns-in-Some-again-clause-rows c =
    again_rows _ _ c.in-Some.setting c.in-Some-again.again c.args.note.now.again c.again_lines.result
    (rw c.in-Some.is at c.requires.setting.some) c.in-Some-again.is c.again_lines.ensures.rows
