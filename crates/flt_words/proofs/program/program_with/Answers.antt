use Rattle.flt_words.proofs.program.program_with.Goals as goal

pub returns : goal.returns
returns c = λ command is. c.with_command.ensures _ _ c.bare_program.ensures is
