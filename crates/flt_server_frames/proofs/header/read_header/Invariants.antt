use Rattle.std.proofs.Common.{◌≡◌, ◌-◌, ◌++◌, [], List, ℕ, length, None}
use Rattle.std.specs.Io.KnownBytes.{Consumes}
use Rattle.flt_server_frames.specs.Frames as spec
use Rattle.flt_server_frames.proofs.header.read_header.Given as goal

abbrev pub invariant-loop-at : goal.invariant-loop-at
invariant-loop-at g l = record {
  goes : (bytes : List ℕ) × Consumes (g.R.Incoming.left l.fn.reader) (g.R.Incoming.left l.reader) bytes × (length bytes ≡ l.at) ×
      ((more : List ℕ) → spec.in_header 8192 [] None (bytes ++ more) ≡ spec.in_header (8192 - l.at) l.part.line.items l.part.length more);
  fine : g.R.Incoming.failures l.reader ≡ g.R.Incoming.failures l.fn.reader;
}
