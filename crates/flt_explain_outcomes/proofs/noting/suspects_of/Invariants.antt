use Rattle.std.proofs.Common.{take}
use Rattle.std.specs.List.{AllZip}
use Rattle.flt_explain_outcomes.specs.Noting.{IsSuspectOf}
use Rattle.flt_explain_outcomes.proofs.noting.suspects_of.Given as goal

abbrev pub invariant-loop-one : goal.invariant-loop-one
invariant-loop-one l = AllZip (IsSuspectOf l.found) (take l.one-index l.reported) l.all.items
