use Rattle.flt_commands.proofs.Covered.{covered_is_clean}
use Rattle.flt_commands.proofs.clean.covered_texts_break_nothing.Goals as goal

pub returns : goal.returns
returns c =
    covered_is_clean c.spells_at_most_one.ensures c.spelled_is_well_formed.ensures c.accepted_certificates_fill_up.ensures.covers
    c.accepted_runs_break_nothing.ensures
