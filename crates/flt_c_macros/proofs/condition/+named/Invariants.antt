use Rattle.flt_c_macros.proofs.condition.+named.Given as goal

abbrev pub decreases-named : goal.decreases-named
decreases-named l = l.depth
