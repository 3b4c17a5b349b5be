use Rattle.std.proofs.Common.{◌≡◌, ◌≤◌, length}
use Rattle.std.specs.Io.KnownBytes.{Consumes}
use Rattle.flt_files.proofs.inputs.read_pieces_within.Given as goal

abbrev pub invariant-loop : goal.invariant-loop
invariant-loop g l = record {
  so_far : Consumes (g.R.Reader.left l.fn.reader) (g.R.Reader.left l.reader) l.pieces;
  counted : l.length ≡ length l.pieces;
  few : l.length ≤ 67108864;
  fine : g.R.Reader.failures l.reader ≡ g.R.Reader.failures l.fn.reader;
  some : l.counter ≤ length l.pieces;
}
