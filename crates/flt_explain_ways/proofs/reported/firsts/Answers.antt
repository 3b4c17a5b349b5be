use Rattle.std.proofs.Common.{◌∷◌, [], ◌++◌, ◌∙◌, ap}
use Rattle.flt_explain_ways.proofs.Firsts.{one_more}
use Rattle.flt_explain_ways.proofs.reported.firsts.Goals as goal

pub loop-group-preserved : goal.loop-group-preserved
loop-group-preserved c =
    one_more c.args.traces.now c.loop-group.group-index c.group-item.result c.loop-group.all c.push.new.self
    (rw c.as_slice-group-items.ensures at c.loop-group-test.true) (rw c.as_slice-group-items.ensures at c.group-item.is)
    c.loop-group.invariant (c.in_ok-push.ensures.ok ∙ ap (λ r. c.loop-group.all ++ r ∷ []) c.reported_of.ensures)
