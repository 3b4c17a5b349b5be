use Rattle.std.proofs.Common.{◌∙◌, refl, sym}
use Rattle.flt_explain_outcomes.proofs.Surveys.{off, unstarted}
use Rattle.flt_explain_outcomes.proofs.outlook.StateSurvey.shows_unstarted.Goals as goal

pub returns : goal.returns
returns c g surveyed is =
    unstarted g c.args.self.now c.args.finding.now surveyed (sym c.is_some.ensures ∙ c.if-is_some.false) (c.if-not-is_for.ensures refl)
    (sym (rw (c.at.ensures, c.as_slice.ensures) at c.is_some-2.ensures) ∙ off c.is_some-2.result is)
