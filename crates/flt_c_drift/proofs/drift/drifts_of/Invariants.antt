use Rattle.std.proofs.Common.{◌≡◌, ◌++◌, [], drop}
use Rattle.flt_c_drift.specs.Drifts.{drifts_from}
use Rattle.flt_c_drift.proofs.drift.drifts_of.Given as goal

abbrev pub invariant-loop-mark : goal.invariant-loop-mark
invariant-loop-mark l = l.found.items ++ drifts_from l.all l.stretch.items (drop l.mark-index l.all) ≡ drifts_from l.all [] l.all
