use Rattle.std.proofs.Common.{◌≡◌, ap, subst, List, ◌∙◌}
use Rattle.json.specs.Token.{Token}
use Rattle.flt_explain_parts.specs.Help.{help_in, help_of, open_line}
use Rattle.flt_explain_parts.specs.Members.{Adds}
use Rattle.flt_explain_sarif.specs.Results.{fault_result}
use Rattle.flt_explain_hints.specs.Telling.{notes_of, title_of}
use Rattle.flt_explain_sarif.proofs.as_sarif.put_trouble.Goals as goal

pub returns : goal.returns
unfolding help_of
returns c =
    let files = c.args.files.now in
    let trouble = c.args.trouble.now in
    let file = c.args.file.now in
    let line : c.as_slice.result.now ≡ open_line files trouble = c.as_slice.ensures.value ∙ c.in_ok-line.ensures in
    let help : c.in_ok-help.help.items ≡ help_of files trouble =
    c.in_ok-help.ensures ∙ ap help_in (c.in_ok-told.ensures.notes ∙ ap (notes_of trouble) line) in
    let same : fault_result file trouble.spot.fault trouble.spot.bytes.now c.in_ok-told.told.title.items c.in_ok-help.help.items
    ≡ fault_result file trouble.spot.fault trouble.spot.bytes.now (title_of trouble) (help_of files trouble) =
    λ i. fault_result file trouble.spot.fault trouble.spot.bytes.now (c.in_ok-told.ensures.title i) (help i) in
    subst (λ (ts : List Token). Adds c.put_fault_result.result c.args.writer.now c.put_fault_result.new.writer ts) same
    c.put_fault_result.ensures
