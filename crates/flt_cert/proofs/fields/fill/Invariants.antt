use Rattle.flt_cert.proofs.FillLaws.{Filled}
use Rattle.flt_cert.proofs.fields.fill.Given as goal

abbrev pub invariant-loop-index : goal.invariant-loop-index
invariant-loop-index l = Filled l.known l.sets l.digits l.index
