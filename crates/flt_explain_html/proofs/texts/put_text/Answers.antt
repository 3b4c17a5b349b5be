use Rattle.std.proofs.Common.{◌++◌}
use Rattle.std.specs.Fmt.{decimal}
use Rattle.std.specs.Prelude.{codes}
use Rattle.flt_explain_html.specs.Escaping.{escaped}
use Rattle.flt_explain_html.specs.Texts.{lines_from, text}
use Rattle.flt_explain_html.proofs.Written.{text_after}
use Rattle.flt_explain_html.proofs.texts.put_text.Goals as goal

pub returns : goal.returns
unfolding text
returns c =
    let number = decimal c.args.number in
    let name = escaped c.args.text.now.name in
    let lines = lines_from c.args.places.now c.args.number 0 c.args.text.now.lines in
    let first = codes "<section id=\"f" in
    let second = codes "\"><h2>" in
    let third = codes "</h2><pre>" in
    let last = codes "</pre></section>" in
    let whole = c.put-4.new.out.items in
    text_after c.args.out.now.items c.put.new.out.items whole first
    (number ++ (second ++ (name ++ (third ++ (lines ++ last))))) c.in_ok-put.ensures
    (text_after c.put.new.out.items c.put_number.new.out.items whole number
    (second ++ (name ++ (third ++ (lines ++ last)))) c.in_ok-put_number.ensures
    (text_after c.put_number.new.out.items c.put-2.new.out.items whole second (name ++ (third ++ (lines ++ last))) c.in_ok-put-2.ensures
    (text_after c.put-2.new.out.items c.put_escaped.new.out.items whole name (third ++ (lines ++ last))
    (rw c.as_slice.ensures at c.in_ok-put_escaped.ensures)
    (text_after c.put_escaped.new.out.items c.put-3.new.out.items whole third (lines ++ last) c.in_ok-put-3.ensures
    (text_after c.put-3.new.out.items c.put_lines.new.out.items whole lines last (rw c.as_slice-2.ensures at c.in_ok-put_lines.ensures)
    c.in_ok-put-4.ensures)))))
