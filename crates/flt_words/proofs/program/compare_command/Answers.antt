use Rattle.flt_words.proofs.program.compare_command.Goals as goal

pub returns : goal.returns
returns c = c.with_argument.ensures _ _ c.bare_compare.ensures c.texts_argument.ensures.rule c.texts_argument.ensures.own
