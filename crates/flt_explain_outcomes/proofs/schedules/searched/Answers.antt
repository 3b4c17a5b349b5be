use Rattle.flt_explain_outcomes.proofs.Answers.{found_by}
use Rattle.flt_explain_outcomes.proofs.schedules.searched.Goals as goal

pub returns : goal.returns
returns g c =
    found_by (λ a. a.items) _ c.args.suspects.now.found.now _ _ c.search.result c.as_slice.ensures.value
    c.in_ok-goals.ensures c.search.ensures
