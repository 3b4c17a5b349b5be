use Rattle.std.proofs.Common.{◌≡◌, ◌∙◌, sym, Some, IfOk, option_and_then}
use Rattle.std.proofs.Math.Path.{subst}
use Rattle.clap.specs.Walk.{rows_of}
use Rattle.clap.specs.Matches.{found_of}
use Rattle.flt_words.specs.Request.{asked_of}
use Rattle.flt_words.specs.Commands.{explain_as, explain_in}
use Rattle.flt_words.specs.Values.{colour_of}
use Rattle.flt_words.proofs.commands.explain_as.Goals as goal

pub returns : goal.returns
unfolding explain_as
returns c =
    let rows = rows_of (found_of c.args.explain.now) in
    let colour : Some c.in-Some.colour ≡ colour_of rows = sym c.in-Some.is ∙ c.colour_of.ensures in
    subst (λ o. IfOk c.explain_in.result (λ r. asked_of r ≡ option_and_then (explain_in rows c.args.form) o)) colour c.explain_in.ensures
