use Rattle.std.proofs.Common.{Some, refl}
use Rattle.flt_explain_parts.specs.Help.{help_of}
use Rattle.flt_explain_parts.specs.Members.{line_of}
use Rattle.flt_explain_forms.specs.Fault.{IsFaultLine, fault}
use Rattle.flt_explain_hints.specs.Telling.{title_of}
use Rattle.flt_explain_hints.specs.Trouble.{IsDescribed}
use Rattle.flt_explain_forms.proofs.as_lines.unread.Goals as goal

pub returns : goal.returns
returns c =
    let files = c.args.source.files in
    let trouble = c.in-Some.trouble in
    let described : IsDescribed c.args.source.text.now (Some trouble) = rw c.in-Some.is at c.in_ok-trouble.ensures in
    let is : IsFaultLine files c.args.source.text.now (line_of (fault files trouble (title_of trouble) (help_of files trouble))) = record {
      trouble = trouble;
      described = described;
      line = refl;
    } in
    (_, is, c.in_ok-written.ensures)
