use Rattle.std.proofs.Common.{codes, false, ◌∙◌}
use Rattle.std.specs.Str.{bytes_eq}
use Rattle.clap.proofs.WalkLemmas.{first_value-rows}
use Rattle.clap.specs.Matches.{found_of}
use Rattle.flt_words.proofs.Requests.{value_or, no_value_or}
use Rattle.flt_words.proofs.values.is_set.Goals as goal

pub returns-in-Some : goal.returns-in-Some
returns-in-Some c =
    let found = found_of c.args.matches.now in
    c.eq.ensures ∙ value_or (λ text. bytes_eq text (codes "true")) false c.get_str.result _
    (c.get_str.ensures ∙ first_value-rows found c.args.id.now) _ c.in-Some.is

pub returns-in-None : goal.returns-in-None
returns-in-None c =
    let found = found_of c.args.matches.now in
    no_value_or (λ text. bytes_eq text (codes "true")) false c.get_str.result _
    (c.get_str.ensures ∙ first_value-rows found c.args.id.now) c.in-None.is
