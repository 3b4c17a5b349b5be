use Rattle.flt_words.proofs.program.check_command.Goals as goal

pub returns : goal.returns
returns c =
    let one = c.with_argument-command.ensures _ _ c.bare_check.ensures c.text_argument.ensures.rule c.text_argument.ensures.own in
    c.with_argument.ensures _ _ one c.cert_argument.ensures.rule c.cert_argument.ensures.own
