use Rattle.std.proofs.Common.{◌≡◌, sym, subst}
use Rattle.flt_c_drift.proofs.OverRuns.{none_counted}
use Rattle.flt_c_drift.specs.Runs.{run_count}
use Rattle.flt_c_drift.proofs.run.run_count.Goals as goal

pub returns-in-No-clause-value : goal.returns-in-No-clause-value
returns-in-No-clause-value c = subst (λ run. 0 ≡ run_count run c.args.letters.now) (sym c.in-No.is) (none_counted c.args.letters.now)
