use Rattle.std.proofs.Common.{◌≡◌, ◌++◌, ap, ◌∙◌, append_assoc}
use Rattle.std.proofs.lemmas.Result.{IfOk-equal}
use Rattle.std.specs.Prelude.{codes, decimal}
use Rattle.flt_c_functions.specs.Lines.{stop_text}
use Rattle.flt_c_functions.proofs.line.put_stop.Goals as goal

pub returns : goal.returns
unfolding stop_text
returns c =
    let line = c.in_ok-put.ensures in
    let comma = c.in_ok-put_number.ensures ∙ ap (λ z. z ++ decimal c.args.place.line) line in
    let column = c.in_ok-put-2.ensures ∙ ap (λ z. z ++ codes ", column ") comma in
    let end = c.in_ok-put_number-2.ensures ∙ ap (λ z. z ++ decimal c.args.place.column) column in
    IfOk-equal c.put-3.result c.put-3.new.out.items (c.put_number-2.new.out.items ++ codes ": ") (c.args.out.now.items ++ stop_text c.args.place)
    c.put-3.ensures (ap (λ z. z ++ codes ": ") end ∙ simp append_assoc)
