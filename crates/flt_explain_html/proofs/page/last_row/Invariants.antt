use Rattle.std.proofs.Common.{◌≡◌, [], drop, map}
use Rattle.flt_explain_html.specs.Page.{last_from}
use Rattle.flt_explain_html.proofs.page.last_row.Given as goal

abbrev pub invariant-loop-row : goal.invariant-loop-row
invariant-loop-row l =
    last_from l.last l.next (map (λ row. row.now) (drop l.row-index l.rows)) ≡ last_from [] [] (map (λ row. row.now) l.rows)
