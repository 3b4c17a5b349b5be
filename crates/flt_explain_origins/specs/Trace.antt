-- What shows a finding: its paths, and what made it so. This project's own program.
use Rattle.std.specs.Prelude.{Option, Some, None, option_map}
use Rattle.flt_explain_origins.specs.declared.answer.Answer.{Answer}
use Rattle.flt_explain_origins.specs.declared.answer.Answer.TheVariants as answer
use Rattle.flt_explain_origins.specs.declared.answer.Way.{Way}
use Rattle.flt_explain_origins.specs.declared.origin.Cause.{Cause}
use Rattle.flt_explain_origins.specs.declared.origin.Origin.{Origin}
use Rattle.flt_explain_origins.specs.declared.trace.FindingTrace.{FindingTrace}

-- what made a finding so, by what shows it; nothing where that isn't known
abbrev pub cause_of : Option FindingTrace → Option Cause
cause_of None = None
cause_of (Some s) = option_map (λ (o : Origin). o.cause) s.origin

-- the path that shows a finding, and the other one where two do
abbrev pub way_of : Answer → Option Way
way_of (answer.Clean found) = Some found.way
way_of (answer.Behind found) = Some found.way
way_of _ = None

abbrev pub other_way : Answer → Option Way
other_way (answer.Clean found) = found.other
other_way (answer.Behind found) = found.other
other_way _ = None
