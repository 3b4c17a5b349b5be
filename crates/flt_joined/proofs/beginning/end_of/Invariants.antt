use Rattle.flt_joined.proofs.Grouping.{IsRun}
use Rattle.flt_joined.proofs.beginning.end_of.Given as goal

abbrev pub invariant-loop-next : goal.invariant-loop-next
invariant-loop-next l = IsRun l.files l.first l.next
