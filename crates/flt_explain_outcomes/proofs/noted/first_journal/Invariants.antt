use Rattle.std.proofs.Common.{◌≡◌, drop}
use Rattle.flt_explain_outcomes.specs.Noted as spec
use Rattle.flt_explain_outcomes.proofs.noted.first_journal.Given as goal

abbrev pub invariant-loop-one : goal.invariant-loop-one
invariant-loop-one l = spec.first_journal (drop l.one-index l.noted) ≡ spec.first_journal l.noted
