use Rattle.flt_explain_advice.specs.Advice.Notes.{unstored_note}
use Rattle.flt_explain_advice.proofs.advice.notes.tell_unstored.Goals as goal

pub returns : goal.returns
unfolding unstored_note
returns c = rw (← c.line.ensures) c.say.ensures
