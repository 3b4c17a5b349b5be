use Rattle.flt_words.proofs.program.thin_command.Goals as goal

pub returns : goal.returns
returns c =
    let one = c.with_argument-command.ensures _ _ c.bare_thin.ensures c.text_argument.ensures.rule c.text_argument.ensures.own in
    c.with_argument.ensures _ _ one c.cert_argument.ensures.rule c.cert_argument.ensures.own
