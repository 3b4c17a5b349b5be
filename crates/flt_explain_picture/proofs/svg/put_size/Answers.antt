use Rattle.std.proofs.Common.{string_bytes, ◌++◌}
use Rattle.std.specs.Prelude.{codes}
use Rattle.flt_explain_picture.specs.Pictures.{attribute, sized}
use Rattle.flt_explain_picture.proofs.Written.{text_after}
use Rattle.flt_explain_picture.proofs.svg.put_size.Goals as goal

pub returns : goal.returns
unfolding sized
returns c =
    let old = string_bytes c.args.out.now in
    let first = codes "<svg xmlns=\"http://www.w3.org/2000/svg\" role=\"img\" font-family=\"monospace\" font-size=\"12\"" in
    let width = attribute (codes "width") c.args.width in
    let height = attribute (codes "height") c.args.height in
    let last = codes ">\n" in
    let opened = string_bytes c.push_str.new.self in
    let wide = string_bytes c.put_attribute.new.out in
    let high = string_bytes c.put_attribute-2.new.out in
    let whole = string_bytes c.push_str-2.new.self in
    text_after old opened whole first (width ++ (height ++ last)) c.in_ok-push_str.ensures.bytes
    (text_after opened wide whole width (height ++ last) c.in_ok-put_attribute.ensures
    (text_after wide high whole height last c.in_ok-put_attribute-2.ensures c.in_ok-push_str-2.ensures.bytes))
