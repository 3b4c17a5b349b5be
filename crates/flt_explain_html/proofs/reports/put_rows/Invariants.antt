use Rattle.std.proofs.Common.{◌≡◌, ◌++◌, drop, map}
use Rattle.flt_explain_html.specs.Reports.{rows_from}
use Rattle.flt_explain_html.proofs.reports.put_rows.Given as goal

abbrev pub invariant-loop-number : goal.invariant-loop-number
invariant-loop-number l =
    l.out.items ++ rows_from l.heads l.left l.number (map (λ row. row.now) (drop l.number l.rows))
    ≡ l.initial.out.items ++ rows_from l.heads l.pictures 0 (map (λ row. row.now) l.rows)
