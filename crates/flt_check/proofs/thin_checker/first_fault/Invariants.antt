use Rattle.flt_check.specs.Checker.{AgreeOnCounts, NoneIn}
use Rattle.flt_check.specs.ThinCovering.{AgreeIn, GivesKept}
use Rattle.flt_check.specs.Full.{full}
use Rattle.flt_check.proofs.thin_checker.first_fault.Given as goal

abbrev pub invariant-marks : goal.invariant-marks
invariant-marks l = record {
  counts : AgreeOnCounts l.graph (full l.graph l.thin);
  before : AgreeIn l.graph l.thin l.callback;
}

abbrev pub invariant-points : goal.invariant-points
invariant-points l = record {
  counts : AgreeOnCounts l.graph (full l.graph l.thin);
  kept : GivesKept l.graph l.thin;
  before : NoneIn l.graph (full l.graph l.thin) l.callback;
}
