use Rattle.std.specs.Prelude.{All}
use Rattle.flt_explain_outcomes.specs.Again.{IsSuspectAgain}
use Rattle.flt_explain_outcomes.proofs.again.suspects_of.Given as goal

abbrev pub invariant-loop-outcome : goal.invariant-loop-outcome
invariant-loop-outcome l = All (IsSuspectAgain l.found) l.all.items
