use Rattle.std.proofs.Common.{None, rules, of_calls}
use Rattle.flt_check.proofs.thin_points.nothing_waits.Goals as goal

pub returns-clause-none : goal.returns-clause-none
returns-clause-none g c = λ k h. let at = c.from_fn.ensures.items.at k None h in search (rules, of_calls)
