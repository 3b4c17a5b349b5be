use Rattle.std.proofs.Common.{◌++◌, ap, ◌∙◌, refl, append_assoc}
use Rattle.flt_explain_texts.specs.Reports.{name_of}
use Rattle.flt_explain_parts.specs.Warned.{status_of}
use Rattle.flt_explain_forms.specs.Clean.{clean_lines}
use Rattle.flt_explain_forms.specs.Lines.{IsPart, warning_lines}
use Rattle.flt_explain_forms.specs.RunMember.{members_in}
use Rattle.flt_explain_forms.proofs.as_lines.put_judged_source.Goals as goal

pub returns : goal.returns
returns c =
    let first = c.in_ok-first.ensures in
    let shown = warning_lines c.args.style c.args.source.files c.in_ok-warned.warned in
    let clean = clean_lines c.args.style (name_of c.args.source) c.args.judged.now c.in_ok-warned.warned in
    let runs = members_in c.args.runs c.args.number in
    let is : IsPart c.args.style c.args.options runs c.args.source (first.0 ++ (shown ++ clean)) c.status_of.result = record {
      judged = c.args.judged.now;
      is = c.requires;
      warned = c.in_ok-warned.warned;
      are = c.in_ok-warned.ensures;
      own = c.status_of.ensures ∙ ap (status_of c.args.options.is_strict c.args.judged.now) c.as_slice-3.ensures;
      first = first.0;
      lines = first.1;
      all = refl;
    } in
    let joined = append_assoc (c.args.out.items ++ first.0) shown clean ∙ append_assoc c.args.out.items first.0 (shown ++ clean) in (
      first.0 ++ (shown ++ clean),
      is,
      rw (c.in_ok-output.ensures, c.name.ensures, c.as_slice-2.ensures, c.in_ok-shown.ensures, c.as_slice.ensures, first.2) joined,
    )
