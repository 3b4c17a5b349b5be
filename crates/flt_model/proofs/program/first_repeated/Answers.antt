use Rattle.std.proofs.Common.{◌∙◌, sym}
use Rattle.flt_model.proofs.Altitudes.{all_distinct, distinct_more, repeated}
use Rattle.flt_model.proofs.program.first_repeated.Goals as goal

pub returns-then-has_altitude : goal.returns-then-has_altitude
returns-then-has_altitude c =
    repeated c.args.trees.now c.loop-number.number c.index-trees-number.result _ c.loop-number-test.true c.index-trees-number.is
    c.loop-number.invariant
    (sym c.has_altitude.ensures ∙ c.if-has_altitude.true)

pub loop-number-preserved : goal.loop-number-preserved
loop-number-preserved c =
    distinct_more c.args.trees.now c.loop-number.number c.index-trees-number.result _ c.loop-number-test.true
    c.index-trees-number.is c.loop-number.invariant
    (sym c.has_altitude.ensures ∙ c.if-has_altitude.false)

pub returns : goal.returns
returns c = all_distinct c.args.trees.now c.loop-number.number c.loop-number-test.false c.loop-number.invariant
