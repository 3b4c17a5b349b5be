use Rattle.std.proofs.Common.{◌≡◌, ◌≤◌, ◌-◌, length}
use Rattle.std.specs.Io.KnownBytes.{Consumes}
use Rattle.flt_server_frames.proofs.frame.read_body.Given as goal

abbrev pub invariant-loop-buffer : goal.invariant-loop-buffer
invariant-loop-buffer g l = record {
  so_far : Consumes (g.R.Incoming.left l.fn.reader) (g.R.Incoming.left l.reader) l.body.items;
  few : length l.body.items ≤ l.count;
  fine : g.R.Incoming.failures l.reader ≡ g.R.Incoming.failures l.fn.reader;
}

abbrev pub decreases-loop-buffer : goal.decreases-loop-buffer
decreases-loop-buffer g l = l.count - length l.body.items
