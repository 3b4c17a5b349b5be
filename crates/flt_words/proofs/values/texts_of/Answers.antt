use Rattle.std.proofs.Common.{◌∙◌, [], ap, unwrap_or}
use Rattle.clap.proofs.WalkLemmas.{raw_values-rows}
use Rattle.clap.specs.Matches.{found_of}
use Rattle.flt_words.proofs.Requests.{texts_taken, no_texts_or}
use Rattle.flt_words.proofs.values.texts_of.Goals as goal

pub returns-in-Some : goal.returns-in-Some
returns-in-Some c =
    texts_taken c.get_strs.result _ _ c.from_slice.result c.in-Some.is
    (c.get_strs.ensures ∙ raw_values-rows (found_of c.args.matches.now) c.args.id.now) c.from_slice.ensures.items

pub returns-in-None : goal.returns-in-None
returns-in-None c =
    no_texts_or c.get_strs.result _ c.in-None.is c.new.ensures.items
    ∙ ap (λ o. unwrap_or o []) (c.get_strs.ensures ∙ raw_values-rows (found_of c.args.matches.now) c.args.id.now)
