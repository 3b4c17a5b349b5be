use Rattle.std.proofs.Common.{◌≡◌, length}
use Rattle.flt_c_macros.specs.Uses.{text, text_from}
use Rattle.flt_c_macros.proofs.text.expand_text.Given as goal

abbrev pub invariant-loop-rest : goal.invariant-loop-rest
invariant-loop-rest l = text l.kept l.text l.fn.state ≡ text_from l.kept l.rest (l.place, l.state)

abbrev pub decreases-loop-rest : goal.decreases-loop-rest
decreases-loop-rest l = length l.rest
