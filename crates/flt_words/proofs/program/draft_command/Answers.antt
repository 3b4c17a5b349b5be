use Rattle.flt_words.proofs.program.draft_command.Goals as goal

pub returns : goal.returns
returns c =
    let one = c.with_argument-command.ensures _ _ c.bare_draft.ensures c.functions_argument.ensures.rule c.functions_argument.ensures.own in
    let two = c.with_argument-command-2.ensures _ _ one c.define_argument.ensures.rule c.define_argument.ensures.own in
    let three = c.with_argument-command-3.ensures _ _ two c.undef_argument.ensures.rule c.undef_argument.ensures.own in
    let four = c.with_argument-command-4.ensures _ _ three c.include_argument.ensures.rule c.include_argument.ensures.own in
    c.with_argument.ensures _ _ four c.texts_argument.ensures.rule c.texts_argument.ensures.own
