use Rattle.flt_words.proofs.program.extract_command.Goals as goal

pub returns : goal.returns
returns c =
    let one = c.with_argument-command.ensures _ _ c.bare_extract.ensures c.map_argument.ensures.rule c.map_argument.ensures.own in
    c.with_argument.ensures _ _ one c.texts_argument.ensures.rule c.texts_argument.ensures.own
