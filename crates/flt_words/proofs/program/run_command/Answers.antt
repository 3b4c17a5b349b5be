use Rattle.flt_words.proofs.program.run_command.Goals as goal

pub returns : goal.returns
returns c =
    let one = c.with_argument-command.ensures _ _ c.bare_run.ensures c.workers_argument.ensures.rule c.workers_argument.ensures.own in
    let two = c.with_argument-command-2.ensures _ _ one c.quiet_argument.ensures.rule c.quiet_argument.ensures.own in
    let three = c.with_argument-command-3.ensures _ _ two c.script_argument.ensures.rule c.script_argument.ensures.own in
    c.with_argument.ensures _ _ three c.texts_argument.ensures.rule c.texts_argument.ensures.own
