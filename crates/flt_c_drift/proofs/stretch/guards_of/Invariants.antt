use Rattle.std.proofs.Common.{◌≡◌, [], drop}
use Rattle.flt_c_drift.specs.Drifts.{guards_from}
use Rattle.flt_c_drift.proofs.stretch.guards_of.Given as goal

abbrev pub invariant-loop-mark : goal.invariant-loop-mark
invariant-loop-mark l = guards_from l.found.items (drop l.mark-index l.stretch) ≡ guards_from [] l.stretch
