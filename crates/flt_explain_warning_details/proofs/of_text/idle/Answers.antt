use Rattle.std.proofs.Common.{ap, ◌∙◌, ◌++◌, length, List}
use Rattle.flt_explain_warning_details.specs.declared.detail.WarningDetail.{WarningDetail}
use Rattle.flt_explain_warning_details.specs.Parsed.{Parsed, of_parsed}
use Rattle.flt_explain_warning_details.proofs.Serving.{idle_by_place}
use Rattle.flt_explain_warning_details.proofs.IdleComments.{one_comment}
use Rattle.flt_explain_warning_details.proofs.of_text.idle.Goals as goal

pub loop-number-preserved : goal.loop-number-preserved
loop-number-preserved c =
    let x : Parsed = of_parsed c.args.text.now in
    one_comment x c.args.comments.now.all.now c.args.warnings.now c.loop-number.number (length c.args.comments.now.all.now)
    c.loop-number.all c.add_idle.new.all c.loop-number-test.true
    (c.in_ok-add_idle.ensures
    ∙ ap (λ (ds : List WarningDetail). c.loop-number.all ++ ds)
    (idle_by_place x c.args.comments.now.all.now c.args.warnings.now c.in_ok-needed.needed c.loop-number.number
    c.in_ok-needed.ensures))
    ∙ c.loop-number.invariant
