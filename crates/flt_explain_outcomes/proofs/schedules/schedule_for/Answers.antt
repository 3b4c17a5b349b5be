use Rattle.flt_explain_outcomes.proofs.schedules.schedule_for.Goals as goal

pub returns-in-Some : goal.returns-in-Some
returns-in-Some c p cs closed found = c.in-Some.ensures.known p cs closed
