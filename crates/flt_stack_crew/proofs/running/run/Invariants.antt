use Rattle.flt_stack_crew.proofs.running.run.Given as goal

abbrev pub ghosts-drive-N-Counts : goal.ghosts-drive-N-Counts
ghosts-drive-N-Counts g a = record {
  callers_name = a.blanks.callers.name;
  callers_parts = a.blanks.callers.parts;
  others_name = a.blanks.others.name;
  others_parts = a.blanks.others.parts;
  fulls_name = a.blanks.fulls.name;
  fulls_parts = a.blanks.fulls.parts;
}

abbrev pub ghosts-drive-N-StackName : goal.ghosts-drive-N-StackName
ghosts-drive-N-StackName g a = record { trees = a.loaded }
