use Rattle.flt_syntax.proofs.Laws.{spells_or_fails}
use Rattle.flt_syntax.proofs.fails.fails_exactly_where_nothing_is_spelled.Goals as goal

pub returns-clause-somewhere : goal.returns-clause-somewhere
returns-clause-somewhere c = spells_or_fails
