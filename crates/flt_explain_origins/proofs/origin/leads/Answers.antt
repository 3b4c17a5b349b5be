use Rattle.std.proofs.Common.{◌≡◌, ℕ, List, [], ◌∷◌, None, ap, drop, refl, sym, ◌∙◌}
use Rattle.flt_graph.specs.declared.graph.Graph.{Graph}
use Rattle.flt_explain_origins.specs.declared.answer.Step.{Step}
use Rattle.flt_explain_origins.specs.Origins as spec
use Rattle.flt_explain_origins.specs.declared.facts.Fact.{Fact}
use Rattle.flt_explain_origins.proofs.origin.leads.Goals as goal

-- from nowhere steps lead nowhere
from_nowhere : (g : Graph) (k : ℕ) (f : Fact) (steps : List Step) → spec.leads g k f None steps ≡ None
from_nowhere g k f [] = refl
from_nowhere g k f (s ∷ steps) = refl

pub returns-in_default : goal.returns-in_default
returns-in_default c =
    let rest = drop c.loop-step.step-index c.args.steps.now in
    sym (from_nowhere c.args.graph.now c.args.callback c.args.fact rest)
    ∙ sym (ap (λ at. spec.leads c.args.graph.now c.args.callback c.args.fact at rest) c.in_default.is) ∙ c.loop-step.invariant
