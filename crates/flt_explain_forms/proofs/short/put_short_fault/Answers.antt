use Rattle.std.proofs.Common.{Some, ◌∙◌}
use Rattle.flt_explain_forms.specs.Short.{IsFaultLine, fault_line}
use Rattle.flt_explain_hints.specs.Trouble.{IsDescribed}
use Rattle.flt_explain_forms.proofs.short.put_short_fault.Goals as goal

pub returns : goal.returns
returns c =
    let described : IsDescribed c.args.source.text.now (Some c.in-Some.trouble) = rw c.in-Some.is at c.in_ok-trouble.ensures in
    let line : IsFaultLine c.args.source.files c.args.source.text.now
    (fault_line c.args.source.files c.in-Some.trouble.spot.fault c.as_slice.result.now) = record {
      trouble = c.in-Some.trouble;
      described = described;
      line = λ i. fault_line c.args.source.files c.in-Some.trouble.spot.fault
          ((c.as_slice.ensures.value ∙ c.in_ok-told.ensures.title) i);
    } in
    (_, line, c.in_ok-written.ensures)
