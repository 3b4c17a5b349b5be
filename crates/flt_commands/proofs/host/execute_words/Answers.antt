use Rattle.flt_commands.proofs.host.execute_words.Goals as goal

pub returns-clause-answered : goal.returns-clause-answered
returns-clause-answered g c = rw c.as_slice-names.ensures.value at c.in_ok-report.ensures.answered

pub returns-clause-shown : goal.returns-clause-shown
returns-clause-shown g c = rw c.as_slice-names.ensures.value at c.in_ok-report.ensures.shown

pub returns-clause-idle : goal.returns-clause-idle
returns-clause-idle g c = rw c.as_slice-names.ensures.value at c.in_ok-report.ensures.idle
