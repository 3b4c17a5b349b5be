use Rattle.std.proofs.Common.{arith}
use Rattle.flt_explain_timeline.proofs.Alike.{folds_end}
use Rattle.flt_explain_timeline.specs.Folds.{folds}
use Rattle.flt_explain_timeline.proofs.folds.folds_of.Goals as goal

pub returns-clause-exact : goal.returns-clause-exact
returns-clause-exact c =
    folds_end c.args.told.now c.args.rows.now c.loop-first.folds (folds c.args.told.now c.args.rows.now) c.loop-first.first
    (omega arith) c.loop-first.invariant.exact
