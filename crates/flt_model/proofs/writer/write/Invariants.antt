use Rattle.std.proofs.Common.{◌≡◌, ◌++◌, take}
use Rattle.std.specs.Io.KnownBytes.{Appends}
use Rattle.std.specs.List.{flat_map}
use Rattle.flt_model.specs.JournalText.{first_line, entry_line}
use Rattle.flt_model.proofs.writer.write.Given as goal

abbrev pub invariant-loop-entry : goal.invariant-loop-entry
invariant-loop-entry g l = record {
  taken : Appends (g.W.Sink.taken l.fn.writer) (g.W.Sink.taken l.writer) (first_line ++ flat_map entry_line (take l.entry-index l.journal));
  fine : g.W.Sink.failures l.writer ≡ g.W.Sink.failures l.fn.writer;
}
