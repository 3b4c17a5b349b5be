use Rattle.std.proofs.Common.{◌++◌, ◌∙◌, ap}
use Rattle.flt_explain_runs.specs.Rows.{legend}
use Rattle.flt_explain_runs.proofs.lines.journal_rows.Goals as goal

pub returns : goal.returns
returns c = record {
  timeline = c.in_ok-timeline.timeline;
  is = c.in_ok-timeline.ensures;
  whole = c.in_ok-push_str.ensures.bytes ∙ ap (λ z. z ++ c.as_str.result.now) c.in_ok-out.ensures.ok
      ∙ ap (λ z. legend ++ z) (c.as_str.ensures.value ∙ c.in_ok-rows.ensures);
}
