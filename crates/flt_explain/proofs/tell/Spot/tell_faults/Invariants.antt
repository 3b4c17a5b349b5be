use Rattle.std.proofs.Common.{◌≡◌, drop}
use Rattle.flt_explain.specs.Told.{at_point}
use Rattle.flt_explain.specs.Walk.{faults_told}
use Rattle.flt_explain.proofs.tell.Spot.tell_faults.Given as goal

abbrev pub invariant-loop-fault : goal.invariant-loop-fault
invariant-loop-fault l = record {
  told : faults_told l.self l.sight (drop l.fault-index l.faults) l.findings ≡ faults_told l.self l.sight l.faults l.initial.findings;
  here : l.here ≡ at_point l.self.callback l.self.point l.findings;
}
