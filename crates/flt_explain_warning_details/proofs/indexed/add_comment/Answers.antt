use Rattle.std.proofs.Common.{sym, ◌∙◌}
use Rattle.std.proofs.lemmas.Result.{on_ok_weaker}
use Rattle.flt_explain_warning_details.proofs.Serving.{by_key, no_key}
use Rattle.flt_explain_warning_details.proofs.indexed.add_comment.Goals as goal

pub returns-in-Some : goal.returns-in-Some
returns-in-Some c =
    on_ok_weaker c.add_key.result
    (by_key c.args.places.now c.add_key.new.places c.args.place c.args.comment.now c.in-Some.key (sym c.in-Some.is ∙ c.key_of.ensures))
    c.add_key.ensures

pub returns-in-None : goal.returns-in-None
returns-in-None c = no_key c.args.places.now c.args.place c.args.comment.now (sym c.in-None.is ∙ c.key_of.ensures)
