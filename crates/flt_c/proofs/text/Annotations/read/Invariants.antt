use Rattle.std.proofs.Common.{length}
use Rattle.flt_c.proofs.Reading.{IsRead}
use Rattle.flt_c.specs.Texts.{text_in}
use Rattle.flt_c.proofs.text.Annotations.read.Given as goal

abbrev pub invariant-loop-rest : goal.invariant-loop-rest
invariant-loop-rest l = IsRead l.number (text_in l.fn.self) l.file (text_in l.self) l.s l.rest

abbrev pub decreases-loop-rest : goal.decreases-loop-rest
decreases-loop-rest l = length l.rest
