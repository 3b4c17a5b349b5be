use Rattle.std.proofs.Common.{◌≡◌, ap, sym, ◌∙◌, Some}
use Rattle.flt_abs.specs.Outcome.{side}
use Rattle.flt_abs.specs.Step.{leads_to}
use Rattle.flt_graph.specs.Graph.{instruction_at}
use Rattle.flt_explain_origins.specs.Alone.{alone, where_given}
use Rattle.flt_explain_origins.proofs.Leading.{comes_to}
use Rattle.flt_explain_origins.proofs.situation.Situation.after.Goals as goal

pub returns : goal.returns
returns c =
    let i = instruction_at c.args.graph.now c.args.callback c.args.step.point in
    let next : leads_to (alone c.args.self.now) i ≡ c.leads_past-next.result =
    ap (λ x. leads_to x i) (sym c.state.ensures) ∙ sym c.leads_past-next.ensures in
    let there : side (leads_to (alone c.args.self.now) i) c.args.step.granted ≡ Some c.in_ok-point.field-0 =
    ap (λ n. side n c.args.step.granted) next ∙ sym c.side.ensures ∙ c.in_ok-point.was in
    let same : alone c.in_ok-situation.situation ≡ where_given c.args.step.gives c.in_ok-point.field-0.state =
    c.in_ok-situation.ensures.value ∙ c.in_ok-where_given.ensures in
    comes_to i c.args.self.now c.args.step.granted c.args.step.gives c.in_ok-point.field-0 c.in_ok-situation.situation there same
