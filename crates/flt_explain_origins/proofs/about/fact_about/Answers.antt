use Rattle.std.proofs.Common.{ap, sym, subst, ◌∙◌}
use Rattle.std.specs.Prelude.{IfSome, IsTrue}
use Rattle.flt_explain_origins.specs.Facts.{is_so}
use Rattle.flt_explain_origins.specs.Origins.{fact_in}
use Rattle.flt_explain_origins.proofs.Subjects.{alone_in, about_is_so}
use Rattle.flt_explain_origins.proofs.about.fact_about.Goals as goal

pub returns-clause-so : goal.returns-clause-so
returns-clause-so c =
    let u = c.args.subject in
    let t = c.args.situation.now in
    let value = c.fact_in.ensures ∙ ap (fact_in u) c.state.ensures ∙ alone_in u t in
    subst (λ o. IfSome o (λ f. IsTrue (is_so f t))) (sym value) (about_is_so u t)
