use Rattle.std.proofs.Common.{length}
use Rattle.flt_explain_ways.specs.Told.{IsAnswer}
use Rattle.flt_explain_ways.specs.Tracing.{IsShown}
use Rattle.flt_explain_ways.proofs.MoreShown.{IsSplit}
use Rattle.flt_explain_ways.proofs.tracing.trace_all.Given as goal

abbrev pub invariant-loop-answer : goal.invariant-loop-answer
invariant-loop-answer l = IsSplit (IsAnswer l.graph) (IsShown l.graph) l.found l.answers l.all.items

abbrev pub decreases-loop-answer : goal.decreases-loop-answer
decreases-loop-answer l = length l.answers
