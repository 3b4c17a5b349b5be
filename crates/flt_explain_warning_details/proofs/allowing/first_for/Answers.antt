use Rattle.std.proofs.Common.{sym, ◌∙◌}
use Rattle.flt_explain_warning_details.specs.Allowing.{serves}
use Rattle.flt_explain_warning_details.specs.Parsed.{of_parsed}
use Rattle.flt_explain_warning_details.proofs.Serving.{found_at, found_nowhere}
use Rattle.flt_explain_warning_details.proofs.allowing.first_for.Goals as goal

pub returns-in-Some : goal.returns-in-Some
returns-in-Some c =
    c.comment.ensures
    ∙ found_at (serves (of_parsed c.args.text.now) c.args.warning.now) c.args.comments.now.all.now c.in-Some.place
    (sym c.place_for.ensures ∙ c.in-Some.is)

pub returns-in-None : goal.returns-in-None
returns-in-None c =
    found_nowhere (serves (of_parsed c.args.text.now) c.args.warning.now) c.args.comments.now.all.now
    (sym c.place_for.ensures ∙ c.in-None.is)
