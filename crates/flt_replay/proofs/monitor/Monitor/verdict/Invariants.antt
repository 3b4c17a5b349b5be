use Rattle.std.proofs.Common.{◌≡◌, drop}
use Rattle.flt_model.specs.Expansion.{verdict_from}
use Rattle.flt_model.specs.Runs.{Moment, start}
use Rattle.flt_replay.specs.Monitoring.{IsAt}
use Rattle.flt_replay.proofs.monitor.Monitor.verdict.Given as goal

abbrev pub invariant-loop-number : goal.invariant-loop-number
invariant-loop-number l =
    (m : Moment) × IsAt l.self m
    × (verdict_from l.stack m l.number (drop l.number l.journal) ≡ verdict_from l.stack (start l.stack) 0 l.journal)
