use Rattle.std.proofs.Common.{take}
use Rattle.std.specs.List.{AllZip}
use Rattle.flt_explain_ways.specs.Told.{IsAnswer}
use Rattle.flt_explain_ways.proofs.to_finding.ways.Given as goal

abbrev pub invariant-loop-finding : goal.invariant-loop-finding
invariant-loop-finding l = AllZip (IsAnswer l.graph) (take l.finding-index l.found) l.all
