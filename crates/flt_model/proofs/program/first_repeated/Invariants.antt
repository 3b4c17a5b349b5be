use Rattle.std.proofs.Common.{take}
use Rattle.flt_model.specs.Program.{HasDistinctAltitudes, filters_of}
use Rattle.flt_model.proofs.program.first_repeated.Given as goal

abbrev pub invariant-loop-number : goal.invariant-loop-number
invariant-loop-number l = HasDistinctAltitudes (filters_of (take l.number l.trees))
