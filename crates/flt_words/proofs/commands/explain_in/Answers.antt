use Rattle.std.proofs.Common.{◌≡◌, codes, ◌∙◌, ap, sym, Some, IfOk, option_and_then, option_map}
use Rattle.std.proofs.Math.Path.{subst}
use Rattle.clap.specs.Walk.{rows_of}
use Rattle.clap.specs.Matches.{found_of}
use Rattle.flt_words.specs.Request.{asked_of}
use Rattle.flt_words.specs.Commands.{explain_in, explain_with}
use Rattle.flt_words.specs.Values.{written_of}
use Rattle.flt_words.proofs.commands.explain_in.Goals as goal

pub returns : goal.returns
unfolding explain_in
returns c =
    let rows = rows_of (found_of c.args.explain.now) in
    let journal : Some (option_map (λ s. s.now) c.in-Some.journal) ≡ written_of (codes "journal") rows =
    sym (ap (option_map (λ file. option_map (λ s. s.now) file)) c.in-Some.is) ∙ c.written_of.ensures in
    subst (λ o. IfOk c.explain_with.result (λ r. asked_of r ≡ option_and_then (explain_with rows c.args.form c.args.colour) o)) journal
    c.explain_with.ensures
