use Rattle.std.proofs.Common.{◌≡◌, ◌≤◌, ◌-◌, List, ℕ, length}
use Rattle.std.specs.Io.KnownBytes.{Consumes}
use Rattle.flt_server_frames.proofs.frame.skip.Given as goal

abbrev pub invariant-loop-passed : goal.invariant-loop-passed
invariant-loop-passed g l = record {
  so_far : (bytes : List ℕ) × Consumes (g.R.Incoming.left l.fn.reader) (g.R.Incoming.left l.reader) bytes × (length bytes ≡ l.passed);
  few : l.passed ≤ l.count;
  fine : g.R.Incoming.failures l.reader ≡ g.R.Incoming.failures l.fn.reader;
}

abbrev pub decreases-loop-passed : goal.decreases-loop-passed
decreases-loop-passed g l = l.count - l.passed
