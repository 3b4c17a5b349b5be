use Rattle.std.proofs.Common.{rules}
use Rattle.flt_explain_ways.proofs.MoreAnswers.{one_answer_more}
use Rattle.flt_explain_ways.proofs.to_finding.ways.Goals as goal

pub loop-finding-preserved : goal.loop-finding-preserved
loop-finding-preserved c =
    one_answer_more c.args.graph.now c.args.found.now c.loop-finding.finding-index _ _ _ _
    c.loop-finding-test.true (search rules) c.loop-finding.invariant c.in_ok-answer.ensures c.in_ok-push.ensures.ok
