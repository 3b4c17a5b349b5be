use Rattle.std.proofs.Common.{ap, map, ◌∙◌}
use Rattle.flt_explain_flows.specs.Flows.{activation_of, steps_of}
use Rattle.flt_explain_flows.proofs.flows.Flow.by.Goals as goal

pub returns : goal.returns
returns c = record {
  timeline = c.in_ok-timeline.timeline;
  shown = c.in_ok-timeline.ensures;
  steps = c.in_ok-steps.ensures ∙ ap (steps_of c.in_ok-timeline.timeline) c.as_slice.ensures;
  activations = c.in_ok-activations.ensures ∙ ap (map (activation_of c.args.trees.now c.args.stage.now.filters.now)) c.as_slice-2.ensures;
}
