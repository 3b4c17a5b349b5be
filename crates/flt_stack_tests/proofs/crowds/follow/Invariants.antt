use Rattle.flt_stack_tests.proofs.crowds.follow.Given as goal

abbrev pub ghosts-crowd-N-Counts : goal.ghosts-crowd-N-Counts
ghosts-crowd-N-Counts g a = record {
  callers_name = a.blanks.callers.name;
  callers_parts = a.blanks.callers.parts;
  others_name = a.blanks.others.name;
  others_parts = a.blanks.others.parts;
  fulls_name = a.blanks.fulls.name;
  fulls_parts = a.blanks.fulls.parts;
}

abbrev pub ghosts-crowd-N-StackName : goal.ghosts-crowd-N-StackName
ghosts-crowd-N-StackName g a = record { trees = a.loaded }
