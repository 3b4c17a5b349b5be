use Rattle.std.proofs.Common.{◌≡◌, arith, get_or, add-one, sym, ◌∙◌}
use Rattle.flt_explain.specs.Sets.{or_all}
use Rattle.flt_explain.proofs.Steps.{fill_step}
use Rattle.flt_explain.proofs.sets.fill.Goals as goal

pub loop-index-preserved : goal.loop-index-preserved
loop-index-preserved c =
    let i = c.loop-index.index in
    let x = c.index-sets-index.result in
    let e : c.or_all.result ≡ or_all (get_or c.loop-index.sets i x) = cc in
    rw (e, add-one) (sym (fill_step c.loop-index.sets i x (omega arith)) ∙ c.loop-index.invariant)
