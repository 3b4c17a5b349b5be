use Rattle.std.proofs.Common.{◌≡◌, sym, subst}
use Rattle.flt_c.proofs.OverRuns.{none_plain}
use Rattle.flt_c.specs.Runs.{plain_count}
use Rattle.flt_c.proofs.run.plain_count.Goals as goal

pub returns-in-No-clause-value : goal.returns-in-No-clause-value
returns-in-No-clause-value c = subst (λ plain. 0 ≡ plain_count plain c.args.z.now) (sym c.in-No.is) (none_plain c.args.z.now)
