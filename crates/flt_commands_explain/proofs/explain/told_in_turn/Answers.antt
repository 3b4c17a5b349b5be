use Rattle.flt_commands_explain.proofs.AfterDrifts.{whole_lines}
use Rattle.flt_explain_forms.specs.declared.as_lines.Style.TheVariants.{Object, Sentence}
use Rattle.flt_commands_explain.proofs.explain.told_in_turn.Goals as goal

pub returns-in_ok-lines_in_turn-in-Short-clause-cut : goal.returns-in_ok-lines_in_turn-in-Short-clause-cut
returns-in_ok-lines_in_turn-in-Short-clause-cut g c =
    rw c.in-Short.is
    (whole_lines Sentence c.args.asked.options c.args.sources.now _ _ _ _ c.in_ok-lines_in_turn-in-Short.ensures.told
    c.in_ok-lines_in_turn-in-Short.ensures.sent)

pub returns-in_ok-lines_in_turn-in-Lines-clause-cut : goal.returns-in_ok-lines_in_turn-in-Lines-clause-cut
returns-in_ok-lines_in_turn-in-Lines-clause-cut g c =
    rw c.in-Lines.is
    (whole_lines Object c.args.asked.options c.args.sources.now _ _ _ _ c.in_ok-lines_in_turn-in-Lines.ensures.told
    c.in_ok-lines_in_turn-in-Lines.ensures.sent)
