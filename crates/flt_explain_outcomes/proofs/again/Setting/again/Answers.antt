use Rattle.flt_explain_outcomes.proofs.Runs.{again_is}
use Rattle.flt_explain_outcomes.proofs.again.Setting.again.Goals as goal

pub returns-in_ok-again_by-in-Some : goal.returns-in_ok-again_by-in-Some
returns-in_ok-again_by-in-Some c =
    again_is c.args._text.now c.args.found.now c.args.self.now c.args.number c.in-Some.outcome.now c.in_ok-again_by-in-Some.field-0
    c.requires.setting c.in-Some.ensures c.in_ok-again_by-in-Some.ensures
