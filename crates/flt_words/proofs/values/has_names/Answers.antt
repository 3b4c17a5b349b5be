use Rattle.std.proofs.Common.{◌∙◌, codes}
use Rattle.clap.proofs.WalkLemmas.{raw_values-rows}
use Rattle.clap.specs.Matches.{found_of}
use Rattle.flt_words.proofs.Requests.{each_taken, none_taken}
use Rattle.flt_words.specs.Values.{is_name}
use Rattle.flt_words.proofs.values.has_names.Goals as goal

pub returns-in-Some : goal.returns-in-Some
returns-in-Some c =
    c.are_names.ensures
    ∙ each_taken is_name c.get_strs.result _ (c.get_strs.ensures ∙ raw_values-rows (found_of c.args.matches.now) (codes "undef"))
    c.in-Some.texts c.in-Some.is

pub returns-in-None : goal.returns-in-None
returns-in-None c =
    none_taken is_name c.get_strs.result _ (c.get_strs.ensures ∙ raw_values-rows (found_of c.args.matches.now) (codes "undef")) c.in-None.is
