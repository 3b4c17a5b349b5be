use Rattle.flt_commands.proofs.OneAnalysis.{analysed_once}
use Rattle.flt_commands.proofs.single.one_analysis_at_most.Goals as goal

pub returns : goal.returns
returns c =
    let fails = c.fails_exactly_where_nothing_is_spelled.ensures in
    analysed_once c.texts_have_one_graph.ensures fails.nowhere fails.once c.one_certificate_is_least.ensures
    c.one_fault_is_named.ensures
