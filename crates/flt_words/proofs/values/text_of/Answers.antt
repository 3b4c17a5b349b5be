use Rattle.std.proofs.Common.{◌≡◌, codes, Bor, List, ℕ, ◌∙◌, ap, option_map, unwrap_or}
use Rattle.clap.proofs.WalkLemmas.{first_value-rows}
use Rattle.clap.specs.Walk.{rows_of, first_of}
use Rattle.clap.specs.Matches.{found_of}
use Rattle.flt_words.proofs.Requests.{text_or}
use Rattle.flt_words.proofs.values.text_of.Goals as goal

pub returns : goal.returns
returns c =
    let found = found_of c.args.matches.now in
    let given : option_map (λ s. s.now) c.get_str.result ≡ first_of c.args.id.now (rows_of found) = c.get_str.ensures
    ∙ first_value-rows found c.args.id.now in
    ap (λ (s : Bor (List ℕ)). s.now) c.unwrap_or.ensures ∙ text_or c.get_str.result _ ∙ ap (λ o. unwrap_or o (codes "-")) given
