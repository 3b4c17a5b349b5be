use Rattle.flt_explain_flows.specs.Flows.{activation_of}
use Rattle.flt_explain_flows.proofs.Mapped.{one_more}
use Rattle.flt_explain_flows.proofs.flows.activations_of.Goals as goal

pub loop-active-preserved : goal.loop-active-preserved
loop-active-preserved c =
    one_more (activation_of c.args.trees.now c.args.filters.now) c.loop-active.all c.push.new.self _ c.in_ok-activation.activation
    c.args.actives.now c.loop-active.active-index _ c.loop-active-test.true c.in_ok-activation.ensures c.in_ok-push.ensures.ok
    c.loop-active.invariant
