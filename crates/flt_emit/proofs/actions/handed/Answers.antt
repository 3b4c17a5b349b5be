use Rattle.flt_emit.proofs.actions.handed.Goals as goal

pub returns-in-Some : goal.returns-in-Some
returns-in-Some c = rw c.in-Some.is (rw c.context_name.ensures at c.write.ensures)
