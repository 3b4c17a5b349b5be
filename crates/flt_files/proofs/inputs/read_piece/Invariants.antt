use Rattle.std.proofs.Common.{◌≡◌, ◌≤◌, ◌-◌, length}
use Rattle.std.specs.Io.KnownBytes.{Consumes}
use Rattle.flt_files.proofs.inputs.read_piece.Given as goal

abbrev pub invariant-loop-buffer : goal.invariant-loop-buffer
invariant-loop-buffer g l = record {
  so_far : Consumes (g.R.Reader.left l.fn.reader) (g.R.Reader.left l.reader) l.piece.items;
  few : length l.piece.items ≤ 131072;
  fine : g.R.Reader.failures l.reader ≡ g.R.Reader.failures l.fn.reader;
}

abbrev pub decreases-loop-buffer : goal.decreases-loop-buffer
decreases-loop-buffer g l = 131072 - length l.piece.items
