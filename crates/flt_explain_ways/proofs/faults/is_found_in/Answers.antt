use Rattle.std.proofs.Common.{ap, ◌∙◌}
use Rattle.flt_explain.specs.Faults.{faults_at}
use Rattle.flt_explain_origins.specs.Ways.{is_among}
use Rattle.flt_explain_ways.proofs.faults.is_found_in.Goals as goal

pub returns : goal.returns
returns c =
    let f = c.args.finding.now in
    c.is_among.ensures
    ∙ ap (λ hs. is_among hs f)
    (c.as_slice.ensures ∙ c.in_ok-faults.ensures.value ∙ ap (faults_at c.args.graph.now f.callback f.point) c.state.ensures)
