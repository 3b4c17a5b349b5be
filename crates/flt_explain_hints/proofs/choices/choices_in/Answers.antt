use Rattle.std.proofs.Common.{ap, ◌∙◌}
use Rattle.flt_explain_hints.specs.Choices.{possible_names}
use Rattle.flt_explain_hints.specs.Trial.{gap_of}
use Rattle.flt_explain_hints.proofs.Tried.{are_choices}
use Rattle.flt_explain_hints.proofs.choices.choices_in.Goals as goal

pub returns : goal.returns
returns c =
    are_choices c.the_fault_is_the_one_told.ensures (gap_of c.args.gap) c.args.text.now _ c.in_ok-expected.ensures
    c.in_ok-takes_number.ensures
    c.in_ok-takes_name.ensures (c.in_ok-names.ensures ∙ ap (possible_names (gap_of c.args.gap)) c.requires.names)
