use Rattle.flt_explain.proofs.FirstFindings.{are_findings}
use Rattle.flt_explain.proofs.of_text.findings.Goals as goal

pub returns : goal.returns
returns c =
    are_findings c.args.graph.now c.in_ok-refusal.field-0 c.in-Some.refusal c.in_ok-found.found c.in_ok-told.told c.in_ok-refusal.ensures
    c.in-Some.is c.in_ok-found.ensures c.in_ok-told.ensures
