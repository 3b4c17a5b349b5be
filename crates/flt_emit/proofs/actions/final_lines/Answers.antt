use Rattle.flt_emit.proofs.actions.final_lines.Goals as goal

pub returns : goal.returns
returns c = rw c.final_status_name.ensures at c.write.ensures
