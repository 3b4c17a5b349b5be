use Rattle.flt_words.proofs.program.explain_command.Goals as goal

pub returns : goal.returns
returns c =
    let one = c.with_argument-command.ensures _ _ c.bare_explain.ensures c.form_argument.ensures.rule c.form_argument.ensures.own in
    let two = c.with_argument-command-2.ensures _ _ one c.colour_argument.ensures.rule c.colour_argument.ensures.own in
    let three = c.with_argument-command-3.ensures _ _ two c.states_argument.ensures.rule c.states_argument.ensures.own in
    let four = c.with_argument-command-4.ensures _ _ three c.stack_argument.ensures.rule c.stack_argument.ensures.own in
    let five = c.with_argument-command-5.ensures _ _ four c.written_argument.ensures.rule c.written_argument.ensures.own in
    let six = c.with_argument-command-6.ensures _ _ five c.runs_argument.ensures.rule c.runs_argument.ensures.own in
    let seven = c.with_argument-command-7.ensures _ _ six c.strict_argument.ensures.rule c.strict_argument.ensures.own in
    let eight = c.with_argument-command-8.ensures _ _ seven c.allow_argument.ensures.rule c.allow_argument.ensures.own in
    let nine = c.with_argument-command-9.ensures _ _ eight c.c_argument.ensures.rule c.c_argument.ensures.own in
    c.with_argument.ensures _ _ nine c.texts_argument.ensures.rule c.texts_argument.ensures.own
