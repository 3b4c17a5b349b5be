use Rattle.std.proofs.Common.{Some, refl}
use Rattle.flt_explain_parts.specs.Help.{help_of}
use Rattle.flt_explain_sarif.specs.Results.{fault_result}
use Rattle.flt_explain_sarif.specs.Sarif.{IsFaultResult}
use Rattle.flt_explain_hints.specs.Telling.{title_of}
use Rattle.flt_explain_hints.specs.Trouble.{IsDescribed}
use Rattle.flt_explain_sarif.proofs.as_sarif.put_unread.Goals as goal

pub returns : goal.returns
returns c =
    let trouble = c.in-Some.trouble in
    let described : IsDescribed c.args.source.text.now (Some trouble) = rw c.in-Some.is at c.in_ok-trouble.ensures in
    let is : IsFaultResult c.args.file.now c.args.source
    (fault_result c.args.file.now trouble.spot.fault trouble.spot.bytes.now (title_of trouble) (help_of c.args.source.files trouble)) = record {
      trouble = trouble;
      described = described;
      result = refl;
    } in
    (_, is, c.in_ok-put_trouble.ensures.ok)
