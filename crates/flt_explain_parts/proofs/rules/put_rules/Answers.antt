use Rattle.std.proofs.Common.{◌++◌, arith}
use Rattle.flt_explain_parts.proofs.Adding.{both}
use Rattle.flt_explain_parts.proofs.RuleLists.{one_more_ruled}
use Rattle.flt_explain_parts.proofs.rules.put_rules.Goals as goal

pub loop-reported-preserved : goal.loop-reported-preserved
loop-reported-preserved c =
    let sofar = c.loop-reported.invariant in
    let one = c.in_ok-put_rule.ensures in (
      sofar.0 ++ one.0,
      one_more_ruled c.args.rules.now c.loop-reported.reported-index _
          (omega (arith, c.loop-reported-test.true)) sofar.0 one.0 sofar.1 one.1,
      both sofar.2 one.2,
    )
