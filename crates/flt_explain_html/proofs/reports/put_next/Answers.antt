use Rattle.std.specs.Prelude.{codes}
use Rattle.flt_explain_html.specs.Reports.{beginning, next_report}
use Rattle.flt_explain_html.proofs.Written.{text_after}
use Rattle.flt_explain_html.proofs.reports.put_next.Goals as goal

pub returns : goal.returns
unfolding next_report
returns c =
    text_after c.args.out.now.items c.put.new.out.items c.put_beginning.new.out.items (codes "</pre></div></article>")
    (beginning c.args.row.now) c.in_ok-put.ensures c.in_ok-put_beginning.ensures
