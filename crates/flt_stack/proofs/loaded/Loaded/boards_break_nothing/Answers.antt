use Rattle.flt_stack.proofs.Boards.{clean_board}
use Rattle.flt_stack.proofs.loaded.Loaded.boards_break_nothing.Goals as goal

pub returns-clause-clean : goal.returns-clause-clean
returns-clause-clean c = clean_board _ _ c.filters-filters.ensures.ordered c.breaks_nothing.ensures c.requires.own

pub returns-clause-legal : goal.returns-clause-legal
returns-clause-legal c =
    (c.legal_journals_are_clean_runs.ensures.law _ _).1
    (clean_board _ _ c.filters-filters.ensures.ordered c.breaks_nothing.ensures c.requires.own)
