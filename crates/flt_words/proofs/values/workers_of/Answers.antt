use Rattle.std.proofs.Common.{codes, ◌∙◌}
use Rattle.clap.proofs.WalkLemmas.{byte_read, first_value-rows}
use Rattle.clap.specs.Walk.{byte_or_zero}
use Rattle.clap.specs.Matches.{found_of}
use Rattle.flt_words.proofs.Requests.{value_or, no_value_or}
use Rattle.flt_words.proofs.values.workers_of.Goals as goal

pub returns-in-Some : goal.returns-in-Some
returns-in-Some c =
    let found = found_of c.args.matches.now in
    c.unwrap_or.ensures ∙ byte_read c.in-Some.text.now c.parse.result c.parse.ensures.value.0 ∙ value_or byte_or_zero 1 c.get_str.result _
    (c.get_str.ensures ∙ first_value-rows found (codes "workers")) _ c.in-Some.is

pub returns-in-None : goal.returns-in-None
returns-in-None c =
    let found = found_of c.args.matches.now in
    no_value_or byte_or_zero 1 c.get_str.result _ (c.get_str.ensures ∙ first_value-rows found (codes "workers")) c.in-None.is
