use Rattle.flt_words.proofs.program.program.Goals as goal

pub returns : goal.returns
returns c =
    let one = c.with_command-program.ensures _ _ c.bare_program.ensures c.check_command.ensures in
    let two = c.with_command-program-2.ensures _ _ one c.analyse_command.ensures in
    let three = c.with_command-program-3.ensures _ _ two c.thin_command.ensures in
    let four = c.with_command-program-4.ensures _ _ three c.explain_command.ensures in
    let five = c.with_command-program-5.ensures _ _ four c.run_command.ensures in
    let six = c.with_command-program-6.ensures _ _ five c.replay_command.ensures in
    let seven = c.with_command-program-7.ensures _ _ six c.extract_command.ensures in
    let eight = c.with_command-program-8.ensures _ _ seven c.format_command.ensures in
    let nine = c.with_command-program-9.ensures _ _ eight c.emit_command.ensures in
    let ten = c.with_command-program-10.ensures _ _ nine c.compare_command.ensures in
    let eleven = c.with_command-program-11.ensures _ _ ten c.draft_command.ensures in
    c.with_command.ensures _ _ eleven c.serve_command.ensures
