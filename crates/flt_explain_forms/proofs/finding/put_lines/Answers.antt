use Rattle.std.proofs.Common.{arith}
use Rattle.flt_explain_parts.proofs.Counting.{all_counted, one_counted_more}
use Rattle.flt_explain_forms.specs.Finding.{numbered_line}
use Rattle.flt_explain_forms.specs.RunMember.{members_in}
use Rattle.flt_explain_forms.proofs.finding.put_lines.Goals as goal

pub loop-finding-preserved : goal.loop-finding-preserved
loop-finding-preserved c =
    let line = numbered_line c.args.files.now c.args.lines.now c.args.graph.now (members_in c.args.runs c.args.source) in
    one_counted_more line c.args.details.now c.loop-finding.finding c.index-details-finding.result (omega (arith, c.loop-finding-test.true))
    c.index-details-finding.is _ _ _ c.loop-finding.invariant c.in_ok-out.ensures

pub returns : goal.returns
returns c =
    let line = numbered_line c.args.files.now c.args.lines.now c.args.graph.now (members_in c.args.runs c.args.source) in
    all_counted line c.args.details.now c.loop-finding.finding _ _ (omega (arith, c.loop-finding-test.false)) c.loop-finding.invariant
