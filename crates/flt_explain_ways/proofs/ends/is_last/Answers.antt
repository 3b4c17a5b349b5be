use Rattle.std.proofs.Common.{◌-◌, length, arith}
use Rattle.flt_explain_ways.proofs.LastSteps.{last_at}
use Rattle.flt_explain_ways.proofs.ends.is_last.Goals as goal

pub returns-in-len1-up : goal.returns-in-len1-up
returns-in-len1-up c =
    last_at c.args.steps.now (length c.args.steps.now - 1) c.args.point _ (omega (arith, c.in-len1-up.len_at_least))
