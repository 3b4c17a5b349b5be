use Rattle.std.proofs.Common.{◌++◌, ap, ◌∙◌, refl}
use Rattle.flt_explain_parts.specs.Warned.{status_of}
use Rattle.flt_explain_parts.proofs.Adding.{both}
use Rattle.flt_explain_sarif.specs.RunFlow.{flows_in}
use Rattle.flt_explain_sarif.specs.Sarif.{IsPart}
use Rattle.flt_explain_sarif.specs.WarningResults.{results_of}
use Rattle.flt_explain_sarif.proofs.as_sarif.put_judged_source.Goals as goal

pub returns : goal.returns
returns c =
    let first = c.in_ok-put_judged.ensures in
    let shown = results_of c.in_ok-file.file c.in_ok-warned.warned in
    let runs = flows_in c.args.runs c.args.number in
    let is : IsPart c.args.options c.args.names.now runs c.args.source (first.0 ++ shown) c.status_of.result = record {
      file = c.in_ok-file.file;
      of = c.in_ok-file.ensures;
      judged = c.args.judged.now;
      is = c.requires;
      warned = c.in_ok-warned.warned;
      are = c.in_ok-warned.ensures;
      own = c.status_of.ensures ∙ ap (status_of c.args.options.is_strict c.args.judged.now) c.as_slice-2.ensures;
      first = first.0;
      results = first.1;
      all = refl;
    } in
    (first.0 ++ shown, is, both first.2 (rw c.as_slice.ensures at c.in_ok-put_warning_results.ensures.ok))
