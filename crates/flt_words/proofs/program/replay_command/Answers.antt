use Rattle.flt_words.proofs.program.replay_command.Goals as goal

pub returns : goal.returns
returns c =
    let one = c.with_argument-command.ensures _ _ c.bare_replay.ensures c.timeline_argument.ensures.rule c.timeline_argument.ensures.own in
    let two = c.with_argument-command-2.ensures _ _ one c.picture_argument.ensures.rule c.picture_argument.ensures.own in
    let three = c.with_argument-command-3.ensures _ _ two c.journal_argument.ensures.rule c.journal_argument.ensures.own in
    c.with_argument.ensures _ _ three c.texts_argument.ensures.rule c.texts_argument.ensures.own
