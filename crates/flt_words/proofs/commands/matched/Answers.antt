use Rattle.std.proofs.Common.{◌≡◌, codes, IfOk, refl}
use Rattle.std.proofs.Math.Path.{subst}
use Rattle.clap.specs.Walk.{rows_of}
use Rattle.clap.specs.Matches.{found_of}
use Rattle.flt_words.specs.Request.{asked_of}
use Rattle.flt_words.proofs.Requests.{named}
use Rattle.flt_words.proofs.commands.matched.Goals as goal

pub returns-in-Some-subcommand_matches-10 : goal.returns-in-Some-subcommand_matches-10
returns-in-Some-subcommand_matches-10 c =
    let draft = c.in-Some-subcommand_matches-10 in
    subst (λ o. IfOk c.asked_draft.result (λ r. asked_of r ≡ o))
    (named c.args.matches.now (codes "draft") (rows_of (found_of draft.draft.now)) (draft.ensures.found.0 refl) draft.ensures.rows)
    c.asked_draft.ensures
