use Rattle.std.proofs.Common.{◌+◌, ◌≡◌, ◌≤◌, List, ℕ, length}
use Rattle.std.specs.Io.KnownBytes.{Consumes}
use Rattle.flt_files.specs.Inputs.{kept}
use Rattle.flt_files.proofs.inputs.read_text_within.Given as goal
use Rattle.flt_rules.specs.Limits.{max_text}

abbrev pub invariant-loop : goal.invariant-loop
invariant-loop g l = record {
  so_far : (taken : List ℕ) × Consumes (g.R.Reader.left l.fn.reader) (g.R.Reader.left l.reader) taken × (l.kept.items ≡ kept taken)
      × (l.total ≡ length taken);
  few : l.total ≤ 67108864;
  room : length l.kept.items ≤ (max_text + 1);
  fine : g.R.Reader.failures l.reader ≡ g.R.Reader.failures l.fn.reader;
  some : l.counter ≤ l.total;
}
