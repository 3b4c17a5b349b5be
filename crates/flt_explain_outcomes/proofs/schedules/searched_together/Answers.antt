use Rattle.std.proofs.Common.{rules}
use Rattle.flt_explain_outcomes.proofs.Answers.{together_by}
use Rattle.flt_explain_outcomes.proofs.schedules.searched_together.Goals as goal

pub returns : goal.returns
returns g c =
    together_by (λ a. a.items) c.args.asked.is_stack c.args.trees.now c.args.suspects.now.filter c.args.suspects.now.found.now
    c.searched.result
    (search rules) c.searched.ensures
