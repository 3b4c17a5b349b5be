use Rattle.std.proofs.Common.{◌≡◌, Some, take}
use Rattle.flt_model.specs.Runs.{Moment, start}
use Rattle.flt_replay.specs.Lesser.{moment_after}
use Rattle.flt_replay.specs.Monitoring.{IsAt}
use Rattle.flt_replay.proofs.monitor.Monitor.runs.Given as goal

abbrev pub invariant-loop-entry : goal.invariant-loop-entry
invariant-loop-entry l =
    (m : Moment) × IsAt l.self m × (moment_after l.stack (start l.stack) (take l.entry-index l.entries) ≡ Some m)
