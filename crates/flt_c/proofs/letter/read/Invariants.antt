use Rattle.std.proofs.Common.{length}
use Rattle.flt_c.proofs.Lettering.{AreLetters}
use Rattle.flt_c.proofs.letter.read.Given as goal

abbrev pub invariant-loop-rest : goal.invariant-loop-rest
invariant-loop-rest l = AreLetters l.file l.out.items l.s l.aside l.rest

abbrev pub decreases-loop-rest : goal.decreases-loop-rest
decreases-loop-rest l = length l.rest
