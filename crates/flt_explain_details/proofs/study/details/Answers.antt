use Rattle.std.proofs.Common.{rules}
use Rattle.flt_explain_details.proofs.MoreDetails.{all_details, as_many, found_at, number_within}
use Rattle.flt_explain_details.proofs.MoreDetails.{one_detail_more, one_like_more, one_longer}
use Rattle.flt_explain_details.proofs.study.details.Goals as goal

pub trace_at-shown-requires : goal.trace_at-shown-requires
trace_at-shown-requires c =
    number_within c.args.found.now _ c.loop-finding.finding-index _ _ (as_many _ _ _ c.in_ok-traces.ensures) c.loop-finding-test.true
    c.len-number.ensures c.loop-finding.invariant.long

pub loop-finding-preserved : goal.loop-finding-preserved
loop-finding-preserved c = record {
  long =
      one_longer c.args.found.now c.loop-finding.finding-index c.loop-finding.all _ _ c.loop-finding-test.true c.loop-finding.invariant.long
      c.in_ok-push.ensures.ok;
  each =
      one_detail_more c.args.source.files _ c.args.source.text.now c.args.tree.now.filter c.args.graph.now c.args.found.now _ _ _ _ _
      c.loop-finding.all _
      c.in_ok-lines.ensures c.len-number.ensures
      (found_at c.args.found.now c.loop-finding.finding-index _ _ _ c.loop-finding-test.true (search rules) c.len-number.ensures
      c.loop-finding.invariant.long)
      c.trace_at-shown.ensures c.loop-finding.invariant.each c.in_ok-detail_by.ensures.detail c.in_ok-push.ensures.ok;
  like =
      one_like_more c.args.found.now c.loop-finding.all _ _ c.len-number.result c.len-number.ensures c.in_ok-push.ensures.ok
      (rw c.in_ok-detail_by.ensures.like c.like-like.ensures) c.loop-finding.invariant.like;
}

pub returns : goal.returns
returns c =
    all_details c.args.source.files c.args.source.text.now c.args.tree.now.filter c.args.graph.now c.args.found.now _
    c.loop-finding.finding-index c.loop-finding.all
    c.in_ok-traces.ensures c.loop-finding-test.false c.loop-finding.invariant.long c.loop-finding.invariant.each
    c.loop-finding.invariant.like
