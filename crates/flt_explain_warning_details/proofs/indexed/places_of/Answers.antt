use Rattle.flt_explain_warning_details.proofs.Serving.{more_places}
use Rattle.flt_explain_warning_details.proofs.indexed.places_of.Goals as goal

pub loop-place-preserved : goal.loop-place-preserved
loop-place-preserved c =
    more_places c.args.comments.now c.loop-place.place c.index-comments-place.result c.loop-place.places c.add_comment.new.places
    c.loop-place-test.true c.index-comments-place.is c.loop-place.invariant c.in_ok-add_comment.ensures
