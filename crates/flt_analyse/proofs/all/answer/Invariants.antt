use Rattle.flt_analyse.proofs.all.answer.Given as goal

abbrev pub ghosts-answer_with : goal.ghosts-answer_with
ghosts-answer_with a = record { name = a.blank.name; parts = a.blank.parts }
