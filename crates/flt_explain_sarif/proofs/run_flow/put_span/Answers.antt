use Rattle.std.proofs.Common.{ap}
use Rattle.flt_explain_parts.proofs.Adding.{same_adds}
use Rattle.flt_explain_sarif.specs.RunFlow.{whole_place}
use Rattle.flt_explain_sarif.proofs.run_flow.put_span.Goals as goal

pub returns-in-Some : goal.returns-in-Some
returns-in-Some c = rw c.in-Some.is (same_adds c.put_region.ensures (ap (whole_place c.args.file.now) c.region.ensures))
