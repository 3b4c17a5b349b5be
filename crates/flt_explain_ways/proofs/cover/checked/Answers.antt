use Rattle.std.proofs.Common.{◌≡◌, ◌∷◌, ◌++◌, [], ap, ◌∙◌}
use Rattle.flt_explain_closed.specs.Closed.{is_closed}
use Rattle.flt_explain_ways.specs.NoWay.{is_checked}
use Rattle.flt_explain_ways.proofs.NoWays.{one_more}
use Rattle.flt_explain_ways.proofs.cover.checked.Goals as goal

pub loop-cover-preserved : goal.loop-cover-preserved
loop-cover-preserved c =
    let g = c.args.graph.now in
    let cover = c.cover-item.result in
    let kept : c.is_closed-is_kept.result ≡ is_checked g cover =
    c.is_closed-is_kept.ensures.value ∙ ap (λ ms. is_closed g cover.callback cover.locks ms) c.as_slice.ensures in
    one_more g c.args.covers.now c.loop-cover.cover-index cover c.loop-cover.all c.push.new.self c.loop-cover-test.true c.cover-item.is
    c.loop-cover.invariant (c.in_ok-push.ensures.ok ∙ ap (λ b. c.loop-cover.all ++ b ∷ []) kept)
