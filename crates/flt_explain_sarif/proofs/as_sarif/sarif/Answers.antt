use Rattle.std.proofs.Common.{◌∙◌}
use Rattle.flt_explain_parts.proofs.Adding.{written}
use Rattle.flt_explain_sarif.specs.Sarif.{IsSarif}
use Rattle.flt_explain_sarif.proofs.as_sarif.sarif.Goals as goal

pub returns : goal.returns
unfolding IsSarif
returns c =
    let shown = c.in_ok-status.ensures in
    let names = c.in_ok-names.ensures in
    let run = rw (c.as_slice-3.ensures.value, c.as_slice-2.ensures.value, c.in_ok-files.ensures, c.as_slice.ensures.value, names)
    at shown.1 in
    let none = c.new-writer.ensures.before ∙ c.new.ensures.items in (
      shown.0,
      run,
      written _ _ _ _ none c.new-writer.ensures.tokens shown.2 c.into_inner-output.ensures.items c.in_ok-push.ensures.items,
    )
