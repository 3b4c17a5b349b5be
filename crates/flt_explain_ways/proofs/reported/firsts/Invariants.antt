use Rattle.std.proofs.Common.{◌≡◌, map, take}
use Rattle.flt_explain_ways.specs.Reported.{reported_of}
use Rattle.flt_explain_ways.proofs.reported.firsts.Given as goal

abbrev pub invariant-loop-group : goal.invariant-loop-group
invariant-loop-group l = l.all ≡ map (reported_of l.traces) (take l.group-index l.traces.groups)
