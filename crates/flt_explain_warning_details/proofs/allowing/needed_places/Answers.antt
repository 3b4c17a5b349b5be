use Rattle.flt_explain_warning_details.specs.Parsed.{of_parsed}
use Rattle.flt_explain_warning_details.proofs.Serving.{more_needed}
use Rattle.flt_explain_warning_details.proofs.allowing.needed_places.Goals as goal

pub loop-warning-preserved : goal.loop-warning-preserved
loop-warning-preserved c =
    more_needed (of_parsed c.args.text.now) c.args.comments.now.all.now c.args.warnings.now c.loop-warning.warning-index
    c.warning-item.result c.place_for.result c.loop-warning.places c.add_place.new.places c.loop-warning-test.true c.warning-item.is
    c.place_for.ensures c.loop-warning.invariant c.in_ok-add_place.ensures
