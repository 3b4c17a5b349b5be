use Rattle.flt_analyse.proofs.analyser.analyse_plainly.Given as goal

abbrev pub ghosts-analyse_in : goal.ghosts-analyse_in
ghosts-analyse_in a = record { name = a.blank.name; parts = a.blank.parts }
