use Rattle.std.proofs.Common.{◌++◌}
use Rattle.std.specs.Prelude.{codes}
use Rattle.flt_explain_html.specs.Reports.{picture_before}
use Rattle.flt_explain_html.proofs.Written.{text_after}
use Rattle.flt_explain_html.proofs.reports.put_picture.Goals as goal

pub returns : goal.returns
unfolding picture_before
returns c =
    let first = codes "</pre></div><div class=\"run\"><figure>" in
    let last = codes "</figure><pre>" in
    let picture = c.args.picture.now in
    let whole = c.put-2.new.out.items in
    text_after c.args.out.now.items c.put.new.out.items whole first (picture ++ last) c.in_ok-put.ensures
    (text_after c.put.new.out.items c.extend_from_slice.new.self.items whole picture last
    c.in_ok-extend_from_slice.ensures.items c.in_ok-put-2.ensures)
