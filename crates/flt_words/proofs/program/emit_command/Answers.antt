use Rattle.flt_words.proofs.program.emit_command.Goals as goal

pub returns : goal.returns
returns c =
    let one = c.with_argument-command.ensures _ _ c.bare_emit.ensures c.part_argument.ensures.rule c.part_argument.ensures.own in
    let two = c.with_argument-command-2.ensures _ _ one c.into_argument.ensures.rule c.into_argument.ensures.own in
    let three = c.with_argument-command-3.ensures _ _ two c.force_argument.ensures.rule c.force_argument.ensures.own in
    let four = c.with_argument-command-4.ensures _ _ three c.text_argument.ensures.rule c.text_argument.ensures.own in
    c.with_argument.ensures _ _ four c.certificate_argument.ensures.rule c.certificate_argument.ensures.own
