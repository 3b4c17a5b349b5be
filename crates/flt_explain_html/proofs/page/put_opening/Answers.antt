use Rattle.std.proofs.Common.{◌++◌}
use Rattle.std.specs.Prelude.{codes}
use Rattle.flt_explain_html.specs.Escaping.{escaped}
use Rattle.flt_explain_html.specs.Page.{opening}
use Rattle.flt_explain_html.proofs.Written.{text_after}
use Rattle.flt_explain_html.proofs.page.put_opening.Goals as goal

pub returns : goal.returns
unfolding opening
returns c =
    let said = escaped c.args.summary.now in
    let style = c.args.style.now in
    let first = codes "<!DOCTYPE html>\n<html lang=\"en\"><head><meta charset=\"utf-8\"><title>" in
    let second = codes " - fltstack explain</title><meta name=\"viewport\" content=\"width=device-width\"><style>" in
    let third = codes "</style></head><body><header><h1>fltstack explain</h1><p><a href=\"#reports\">" in
    let last = codes "</a></p><nav>" in
    let whole = c.put-5.new.out.items in
    text_after c.args.out.now.items c.put.new.out.items whole first
    (said ++ (second ++ (style ++ (third ++ (said ++ last))))) c.in_ok-put.ensures
    (text_after c.put.new.out.items c.put_escaped.new.out.items whole said
    (second ++ (style ++ (third ++ (said ++ last)))) c.in_ok-put_escaped.ensures
    (text_after c.put_escaped.new.out.items c.put-2.new.out.items whole second (style ++ (third ++ (said ++ last))) c.in_ok-put-2.ensures
    (text_after c.put-2.new.out.items c.put-3.new.out.items whole style (third ++ (said ++ last)) c.in_ok-put-3.ensures
    (text_after c.put-3.new.out.items c.put-4.new.out.items whole third (said ++ last) c.in_ok-put-4.ensures
    (text_after c.put-4.new.out.items c.put_escaped-2.new.out.items whole said last c.in_ok-put_escaped-2.ensures c.in_ok-put-5.ensures)))))
