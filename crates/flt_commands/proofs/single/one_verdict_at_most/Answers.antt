use Rattle.flt_commands.proofs.OneVerdict.{replayed_once}
use Rattle.flt_commands.proofs.single.one_verdict_at_most.Goals as goal

pub returns : goal.returns
returns c =
    let fails = c.fails_exactly_where_nothing_is_spelled.ensures in
    replayed_once c.spells_at_most_one.ensures fails.nowhere fails.once c.one_journal_is_spelled.ensures
    c.one_first_fault_at_most.ensures.one
    c.one_first_fault_at_most.ensures.none
