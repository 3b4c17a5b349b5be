use Rattle.std.proofs.Common.{rules}
use Rattle.flt_explain_warnings.proofs.of_text.warnings.Goals as goal

pub returns : goal.returns
returns c = record {
  circle = c.find_circle-circle.result;
  shown = record {
    ordered = c.find_circle-circle.ensures.ordered;
    circle = c.find_circle-circle.ensures.circle;
    once = c.find_circle-circle.ensures.once;
    two = c.find_circle-circle.ensures.two;
  };
  all = search rules;
}
