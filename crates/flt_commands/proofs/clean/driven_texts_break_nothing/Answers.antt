use Rattle.flt_commands.proofs.Covered.{driven_is_clean}
use Rattle.flt_commands.proofs.clean.driven_texts_break_nothing.Goals as goal

pub returns : goal.returns
returns c = driven_is_clean c.spells_at_most_one.ensures
