use Rattle.std.proofs.Common.{◌≡◌, ◌≤◌, ◌+◌, drop}
use Rattle.flt_model.specs.JournalTextReading.{exactly}
use Rattle.flt_model.proofs.scanner.exactly_by_bytes.Given as goal

abbrev pub invariant-loop-wanted : goal.invariant-loop-wanted
invariant-loop-wanted g l = record {
  read : exactly l.bytes (g.R.Source.coming l.fn.reader) ≡ exactly (drop l.wanted-index l.bytes) (g.R.Source.coming l.reader);
  fine : g.R.Source.failures l.reader ≡ g.R.Source.failures l.fn.reader;
  reads : g.R.Source.reads l.reader ≤ g.R.Source.reads l.fn.reader + l.wanted-index;
}
