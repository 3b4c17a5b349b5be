use Rattle.flt_commands.proofs.OneThin.{thins_once}
use Rattle.flt_commands.proofs.OneDecision.{bytes_decided_once}
use Rattle.flt_commands_texts.specs.Thin.{Decides}
use Rattle.flt_commands.proofs.single.one_thin_at_most.Goals as goal

pub returns : goal.returns
returns c =
    let fails = c.fails_exactly_where_nothing_is_spelled.ensures in
    let once = thins_once c.one_refusal_at_most.ensures.one c.one_refusal_at_most.ensures.none in
    bytes_decided_once Decides once c.texts_have_one_graph.ensures fails.nowhere fails.once c.one_certificate_is_spelled.ensures
    c.one_fault_is_first.ensures.one c.one_fault_is_first.ensures.none
