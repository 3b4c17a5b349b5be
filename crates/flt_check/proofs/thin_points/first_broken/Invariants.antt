use Rattle.flt_check.specs.Ready.{IsReady, FaultlessBefore}
use Rattle.flt_check.proofs.thin_points.first_broken.Given as goal

abbrev pub invariant-loop-point : goal.invariant-loop-point
invariant-loop-point l = record {
  ready : IsReady l.graph l.callback l.slots l.point l.states;
  before : FaultlessBefore l.graph l.callback l.slots l.point;
}
