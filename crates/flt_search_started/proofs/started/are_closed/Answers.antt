use Rattle.std.proofs.Common.{sym, ◌∙◌}
use Rattle.flt_search_started.proofs.Closing.{closed}
use Rattle.flt_search_started.proofs.started.are_closed.Goals as goal

pub returns-then-has_entries : goal.returns-then-has_entries
returns-then-has_entries c = λ kept. closed _ _ (sym c.has_entries.ensures ∙ c.if-has_entries.true) (c.are_kept.ensures kept)
