use Rattle.std.proofs.Common.{◌≡◌, drop}
use Rattle.std.specs.List.{find}
use Rattle.flt_explain_advice.specs.Advice.Notes.{is_unstored}
use Rattle.flt_explain_advice.specs.Case.{of_case}
use Rattle.flt_explain_advice.proofs.advice.notes.first_among.Given as goal

abbrev pub invariant-loop-step : goal.invariant-loop-step
invariant-loop-step l = find (is_unstored (of_case l.case)) (drop l.step-index l.steps) ≡ find (is_unstored (of_case l.case)) l.steps
