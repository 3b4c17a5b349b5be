use Rattle.flt_explain_ways.proofs.Firsts.{reported_are_firsts}
use Rattle.flt_explain_ways.specs.Reported.{AreReportedBy}
use Rattle.flt_explain_ways.proofs.reported.reported_findings.Goals as goal

pub returns : goal.returns
returns c =
    let are : AreReportedBy c.args.graph.now c.args.found.now c.in_ok-traces.traces c.in_ok-each.each =
    record { traced = c.in_ok-traces.ensures; each = c.in_ok-each.ensures } in
    record { are = are; firsts = reported_are_firsts _ _ _ _ are }
