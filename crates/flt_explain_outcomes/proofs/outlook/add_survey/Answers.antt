use Rattle.flt_explain_outcomes.proofs.Surveys.{one_more}
use Rattle.flt_explain_outcomes.proofs.outlook.add_survey.Goals as goal

pub returns-in_ok-push-in-Some : goal.returns-in_ok-push-in-Some
returns-in_ok-push-in-Some c =
    one_more c.args.graph.now c.args.surveyed.now c.push.new.self c.in-Some.found c.in_ok-push-in-Some.ensures.ok c.requires.old
    (rw c.in-Some.is at c.in_ok-found.ensures)
