use Rattle.std.proofs.Common.{◌≡◌, ◌∙◌, sym, Some, IfOk, option_and_then}
use Rattle.std.proofs.Math.Path.{subst}
use Rattle.clap.specs.Walk.{rows_of}
use Rattle.clap.specs.Matches.{found_of}
use Rattle.flt_words.specs.Request.{asked_of}
use Rattle.flt_words.specs.Commands.{explain_as}
use Rattle.flt_words.specs.Values.{form_of}
use Rattle.flt_words.proofs.commands.asked_explain.Goals as goal

pub returns : goal.returns
returns c =
    let rows = rows_of (found_of c.args.explain.now) in
    let form : Some c.in-Some.form ≡ form_of rows = sym c.in-Some.is ∙ c.form_of.ensures in
    subst (λ o. IfOk c.explain_as.result (λ r. asked_of r ≡ option_and_then (explain_as rows) o)) form c.explain_as.ensures
