use Rattle.std.proofs.Common.{codes, ◌∙◌, Some}
use Rattle.clap.proofs.WalkLemmas.{first_value-rows}
use Rattle.clap.specs.Matches.{found_of}
use Rattle.flt_words.specs.Values.{form_named}
use Rattle.flt_words.specs.declared.request.Form.TheVariants.{Human}
use Rattle.flt_words.proofs.Requests.{value_or, no_value_or}
use Rattle.flt_words.proofs.values.named_form.Goals as goal

pub returns-in-Some : goal.returns-in-Some
returns-in-Some c =
    let found = found_of c.args.matches.now in
    c.form_named.ensures ∙ value_or form_named (Some Human) c.get_str.result _
    (c.get_str.ensures ∙ first_value-rows found (codes "form")) _ c.in-Some.is

pub returns-in-None : goal.returns-in-None
returns-in-None c =
    let found = found_of c.args.matches.now in
    no_value_or form_named (Some Human) c.get_str.result _ (c.get_str.ensures ∙ first_value-rows found (codes "form")) c.in-None.is
