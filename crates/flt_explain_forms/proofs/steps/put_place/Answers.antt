use Rattle.std.proofs.Common.{ap}
use Rattle.flt_explain_parts.proofs.Adding.{same_adds}
use Rattle.flt_explain_forms.specs.Places.{region_members}
use Rattle.flt_explain_forms.proofs.steps.put_place.Goals as goal

pub returns : goal.returns
returns c = same_adds c.put_region_members.ensures (ap (region_members c.args.points.now.files c.args.points.now.home) c.region.ensures)
