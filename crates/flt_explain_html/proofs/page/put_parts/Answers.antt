use Rattle.std.proofs.Common.{◌++◌, map}
use Rattle.std.specs.Prelude.{codes}
use Rattle.flt_explain_html.specs.Page.{last_row, opening, parts}
use Rattle.flt_explain_html.specs.Reports.{rows_from}
use Rattle.flt_explain_html.specs.Texts.{links_from, texts_from}
use Rattle.flt_explain_html.proofs.Written.{text_after}
use Rattle.flt_explain_html.proofs.page.put_parts.Goals as goal

pub returns : goal.returns
unfolding parts
returns c =
    let rows = map (λ row. row.now) c.args.rows.now in
    let first = opening c.args.style.now (last_row rows) in
    let links = links_from 0 c.args.texts.now in
    let texts = texts_from c.args.places.now 0 c.args.texts.now in
    let reports = rows_from c.args.heads.now c.args.pictures.now 0 rows in
    let second = codes "</nav></header><main><div class=\"texts\">" in
    let third = codes "</div><div class=\"reports\" id=\"reports\">" in
    let last = codes "</pre></div></article></div></main></body></html>\n" in
    let whole = c.put-3.new.out.items in
    text_after c.args.out.now.items c.put_opening.new.out.items whole first (links ++ (second ++ (texts ++ (third ++ (reports ++ last)))))
    (rw c.last_row.ensures at c.in_ok-put_opening.ensures)
    (text_after c.put_opening.new.out.items c.put_links.new.out.items whole links
    (second ++ (texts ++ (third ++ (reports ++ last)))) c.in_ok-put_links.ensures
    (text_after c.put_links.new.out.items c.put.new.out.items whole second (texts ++ (third ++ (reports ++ last))) c.in_ok-put.ensures
    (text_after c.put.new.out.items c.put_texts.new.out.items whole texts (third ++ (reports ++ last)) c.in_ok-put_texts.ensures
    (text_after c.put_texts.new.out.items c.put-2.new.out.items whole third (reports ++ last) c.in_ok-put-2.ensures
    (text_after c.put-2.new.out.items c.put_rows.new.out.items whole reports last c.in_ok-put_rows.ensures c.in_ok-put-3.ensures)))))
