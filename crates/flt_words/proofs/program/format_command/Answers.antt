use Rattle.flt_words.proofs.program.format_command.Goals as goal

pub returns : goal.returns
returns c =
    let one = c.with_argument-command.ensures _ _ c.bare_format.ensures c.check_argument.ensures.rule c.check_argument.ensures.own in
    let two = c.with_argument-command-2.ensures _ _ one c.write_argument.ensures.rule c.write_argument.ensures.own in
    c.with_argument.ensures _ _ two c.texts_argument.ensures.rule c.texts_argument.ensures.own
