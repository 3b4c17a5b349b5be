use Rattle.std.proofs.Common.{sym, ◌∙◌}
use Rattle.flt_explain_warning_details.proofs.Serving.{put}
use Rattle.flt_explain_warning_details.proofs.indexed.add_key.Goals as goal

pub returns : goal.returns
returns c = λ q.
    put c.args.places.now c.args.key q c.args.place c.insert.new.self (sym c.contains_key.ensures ∙ c.if-contains_key.false)
    (c.in_ok-insert.ensures.updates.0 q)
