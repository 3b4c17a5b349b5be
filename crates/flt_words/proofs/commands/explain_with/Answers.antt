use Rattle.std.proofs.Common.{◌≡◌, codes, ◌∙◌, ap, map, sym, Some, option_map}
use Rattle.clap.specs.Walk.{rows_of}
use Rattle.clap.specs.Matches.{found_of}
use Rattle.flt_words.specs.Commands.{explain_of, explain_with}
use Rattle.flt_words.specs.Values.{allowed_of, files_of, is_set, search_of}
use Rattle.flt_words.proofs.commands.explain_with.Goals as goal

pub returns : goal.returns
unfolding explain_with
returns c =
    let rows = rows_of (found_of c.args.explain.now) in
    let allowed : Some (map (λ s. s.now) c.in-Some.allowed.items) ≡ allowed_of rows =
    sym (ap (option_map (λ kinds. map (λ s. s.now) kinds.items)) c.in-Some.is) ∙ c.in_ok-allowed.ensures in
    rw (c.explain_of.ensures, c.is_set.ensures, c.is_set-is_c.ensures, c.search_of.ensures, c.in_ok-files.ensures)
    (ap (option_map (λ kinds. explain_of c.args.form c.args.colour (search_of rows) (option_map (λ s. s.now) c.args.journal)
    (record { strict = is_set (codes "strict") rows; allowed = kinds }) (is_set (codes "c") rows) (files_of rows))) allowed)
